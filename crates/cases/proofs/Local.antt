-- Request T-08: primitives 7 to 9, from image bytes to the whole answer. With x, m, z = 4, 5, 6; `use_m` is (m), `handed` is
-- (first (rest (stx-e z))), what the macro was handed, `none'` is (quote ()), `stop a` is (link (syntax a) (quote ())).
use mathlib.Core.Path.{◌≡◌, refl}
use Prim.Native.Nat.{ℕ}
use mathlib.Core.List.{List, [], ◌∷◌}
use Rattle.model.specs.Objects.{number, prim, no_sets, Stx, atom, nil}
use Rattle.model.specs.Trees.{Tree, app, datum, tnil, tcons}
use Rattle.model.specs.Writing.{syntax_bytes, tree_image_bytes}
use Rattle.model.specs.Jobs.{expand_job, evaluate_job}
use Rattle.cases.proofs.Notation.{s1, s2, s12, id, ls, ◌▹◌, lambda', let_syntax', syntax', call, to, wx, wm, wz, head, image_xmz, lent_table, lent_output, refuses, rivals-at, writes, expanded, evaluated}

abbrev num : ℕ → Stx
num n = atom no_sets (number n)

abbrev quote' : Stx
quote' = id 2 0

abbrev sx : Stx → Stx
sx a = ls (syntax' ▹ a ▹ nil)

abbrev none' : Stx
none' = ls (quote' ▹ ls nil ▹ nil)

abbrev stop : Stx → Stx
stop a = call 4 (sx a ▹ none' ▹ nil)

abbrev use_m : Stx
use_m = ls (id 5 0 ▹ nil)

abbrev handed : Stx
handed = call 2 (call 3 (call 0 (id 6 0 ▹ nil) ▹ nil) ▹ nil)

-- (let-syntax m right body), and (let-syntax n (lambda z value) body), where n is x, m or z
abbrev let_m : Stx → Stx → Stx
let_m right body = ls (let_syntax' ▹ id 5 0 ▹ right ▹ body ▹ nil)

abbrev macro : ℕ → Stx → Stx → Stx
macro n value body = ls (let_syntax' ▹ id n 0 ▹ ls (lambda' ▹ id 6 0 ▹ value ▹ nil) ▹ body ▹ nil)

abbrev macro_x : Stx → Stx → Stx
macro_x = macro 4

abbrev macro_m : Stx → Stx → Stx
macro_m = macro 5

abbrev macro_z : Stx → Stx → Stx
macro_z = macro 6

abbrev tree : Tree → List ℕ
tree t = tree_image_bytes (head [] 4 0) t

-- ---- 28: where 000's introduction scope is absent, after the count of arguments (10) and before any argument. The argument here, (0), would be refused
-- by 10

-- (let-syntax m (#7 (0)) 1)
in_a_right_hand_side : expanded (image_xmz (let_m (call 7 (ls (num 0 ▹ nil) ▹ nil)) (num 1))) ≡ refuses 400 lent_output 28 20
unfolding expand_job syntax_bytes lent_table lent_output no_sets
in_a_right_hand_side = refl

-- (let-syntax m (#8 (0) 0) 1)
expanding-there : expanded (image_xmz (let_m (call 8 (ls (num 0 ▹ nil) ▹ num 0 ▹ nil)) (num 1))) ≡ refuses 400 lent_output 28 23
unfolding expand_job syntax_bytes lent_table lent_output no_sets
expanding-there = refl

-- (let-syntax m (#9 (0)) 1)
fitting-there : expanded (image_xmz (let_m (call 9 (ls (num 0 ▹ nil) ▹ nil)) (num 1))) ≡ refuses 400 lent_output 28 20
unfolding expand_job syntax_bytes lent_table lent_output no_sets
fitting-there = refl

-- (let-syntax m (#8 (0)) 1)
count_comes_first : expanded (image_xmz (let_m (call 8 (ls (num 0 ▹ nil) ▹ nil)) (num 1))) ≡ refuses 400 lent_output 10 20
unfolding expand_job syntax_bytes lent_table lent_output no_sets
count_comes_first = refl

-- a right-hand side in what a macro expands: (let-syntax m (lambda z (#8 (syntax (let-syntax x (#7 (0)) 1)) (quote ()))) (m))
inside_a_macro_use_too : expanded (image_xmz (macro_m (call 8 (sx (ls (let_syntax' ▹ id 4 0 ▹ call 7 (ls (num 0 ▹ nil) ▹ nil) ▹ num 1 ▹ nil)) ▹ none' ▹ nil)) use_m))
    ≡ refuses 400 lent_output 28 100
unfolding expand_job syntax_bytes lent_table lent_output no_sets
inside_a_macro_use_too = refl

-- the evaluate job: #9 of (0 applied to nothing)
in_the_evaluate_job : evaluated 40 (tree (app (datum (prim 9)) (tcons (app (datum (number 0)) tnil) tnil))) ≡ refuses 40 lent_output 28 6
unfolding evaluate_job tree_image_bytes lent_table lent_output
in_the_evaluate_job = refl

-- #9 of nothing
count_first_in_the_evaluate_job : evaluated 40 (tree (app (datum (prim 9)) tnil)) ≡ refuses 40 lent_output 10 4
unfolding evaluate_job tree_image_bytes lent_table lent_output
count_first_in_the_evaluate_job = refl

-- ---- 7: the meaning of an identifier

image_value_of_a_macro : List ℕ
image_value_of_a_macro =
    1 ∷ 3 ∷ 1 ∷ 120 ∷ 1 ∷ 109 ∷ 1 ∷ 122 ∷ 4 ∷ 6 ∷ 4 ∷ 4 ∷ 7 ∷ 1 ∷ 1 ∷ 5 ∷ 9 ∷ 2 ∷ 1 ∷ 3 ∷ 6 ∷ 8 ∷ 1 ∷ 2 ∷ 6 ∷ 10 ∷ 1 ∷ 4 ∷ 1 ∷ 1 ∷ 6 ∷ 0 ∷ 0 ∷ 5 ∷ []

-- (let-syntax x (lambda z (syntax 5)) (let-syntax m (lambda z ((#7 (syntax x)) z)) (m)))
value_of_a_macro : expanded (image_xmz (macro_x (sx (num 5)) (macro_m (ls (call 7 (sx (id 4 0) ▹ nil) ▹ id 6 0 ▹ nil)) use_m)))
    ≡ writes 400 100 image_value_of_a_macro
unfolding expand_job syntax_bytes lent_table lent_output no_sets image_value_of_a_macro
value_of_a_macro = refl

-- (lambda x (let-syntax m (lambda z (#7 (syntax x))) (m))): a variable
meaning_of_a_variable : expanded (image_xmz (ls (lambda' ▹ id 4 0 ▹ macro_m (call 7 (sx (id 4 0) ▹ nil)) use_m ▹ nil))) ≡ refuses 400 lent_output 11 66
unfolding expand_job syntax_bytes lent_table lent_output no_sets
meaning_of_a_variable = refl

-- (let-syntax m (lambda z (#7 (syntax lambda))) (m))
meaning_of_a_form : expanded (image_xmz (macro_m (call 7 (sx lambda' ▹ nil)) use_m)) ≡ refuses 400 lent_output 11 48
unfolding expand_job syntax_bytes lent_table lent_output no_sets
meaning_of_a_form = refl

-- (let-syntax m (lambda z (#7 (syntax x))) (m))
no-meaning : expanded (image_xmz (macro_m (call 7 (sx (id 4 0) ▹ nil)) use_m)) ≡ refuses 400 lent_output 11 48
unfolding expand_job syntax_bytes lent_table lent_output no_sets
no-meaning = refl

-- (let-syntax m (lambda z (#7 (syntax 1))) (m))
no-identifier : expanded (image_xmz (macro_m (call 7 (sx (num 1) ▹ nil)) use_m)) ≡ refuses 400 lent_output 11 48
unfolding expand_job syntax_bytes lent_table lent_output no_sets
no-identifier = refl

-- ---- 8: a piece expanded, with stops

image_expanded_inside : List ℕ
image_expanded_inside =
    1 ∷ 3 ∷ 1 ∷ 120 ∷ 1 ∷ 109 ∷ 1 ∷ 122 ∷ 4 ∷ 6 ∷ 4 ∷ 4 ∷ 9 ∷ 2 ∷ 4 ∷ 5 ∷ 4 ∷ 10 ∷ 3 ∷ 4 ∷ 5 ∷ 6 ∷ 5 ∷ 7 ∷ 1 ∷ 1 ∷ 6 ∷ 8 ∷ 1 ∷ 2 ∷ 5 ∷ 1 ∷ 4 ∷ 0
    ∷ 0 ∷ 3 ∷ 0 ∷ 1 ∷ 4 ∷ 0 ∷ 0 ∷ 0 ∷ 0 ∷ 3 ∷ 4 ∷ 5 ∷ 6 ∷ 0 ∷ 0 ∷ 4 ∷ 0 ∷ 3 ∷ 4 ∷ 5 ∷ 6 ∷ 0 ∷ 0 ∷ 4 ∷ []

-- (let-syntax m (lambda z (#8 (syntax (lambda x x)) (quote ()))) (m))
expanded_inside : expanded (image_xmz (macro_m (call 8 (sx (ls (lambda' ▹ id 4 0 ▹ id 4 0 ▹ nil)) ▹ none' ▹ nil)) use_m))
    ≡ writes 400 88 image_expanded_inside
unfolding expand_job syntax_bytes lent_table lent_output no_sets image_expanded_inside
expanded_inside = refl

image_stopped_and_worked_again : List ℕ
image_stopped_and_worked_again =
    1 ∷ 3 ∷ 1 ∷ 120 ∷ 1 ∷ 109 ∷ 1 ∷ 122 ∷ 3 ∷ 5 ∷ 3 ∷ 4 ∷ 9 ∷ 2 ∷ 4 ∷ 5 ∷ 5 ∷ 7 ∷ 1 ∷ 1 ∷ 6 ∷ 8 ∷ 1 ∷ 2 ∷ 5 ∷ 1 ∷ 4 ∷ 0 ∷ 0 ∷ 3 ∷ 0 ∷ 1 ∷ 4 ∷ 0 ∷ 0
    ∷ 0 ∷ 0 ∷ 2 ∷ 4 ∷ 5 ∷ 0 ∷ 0 ∷ 4 ∷ 0 ∷ 2 ∷ 4 ∷ 5 ∷ 0 ∷ 0 ∷ 4 ∷ []

-- a form that is stopped stays as it is, and is worked outside: (let-syntax m (lambda z (#8 (syntax (lambda x x)) (#4 (syntax lambda) (quote ())))) (m))
stopped_and_worked_again : expanded (image_xmz (macro_m (call 8 (sx (ls (lambda' ▹ id 4 0 ▹ id 4 0 ▹ nil)) ▹ stop lambda' ▹ nil)) use_m))
    ≡ writes 400 109 image_stopped_and_worked_again
unfolding expand_job syntax_bytes lent_table lent_output no_sets image_stopped_and_worked_again
stopped_and_worked_again = refl

image_stopped_macro : List ℕ
image_stopped_macro =
    1 ∷ 3 ∷ 1 ∷ 120 ∷ 1 ∷ 109 ∷ 1 ∷ 122 ∷ 4 ∷ 8 ∷ 4 ∷ 4 ∷ 7 ∷ 1 ∷ 1 ∷ 5 ∷ 9 ∷ 2 ∷ 1 ∷ 3 ∷ 6 ∷ 8 ∷ 1 ∷ 2 ∷ 6 ∷ 10 ∷ 1 ∷ 4 ∷ 1 ∷ 1 ∷ 8 ∷ 0 ∷ 0 ∷ 5 ∷ []

-- (let-syntax x (lambda z (syntax 5)) (let-syntax m (lambda z (#8 (syntax (x)) (#4 (syntax x) (quote ())))) (m)))
stopped-macro : expanded (image_xmz (macro_x (sx (num 5)) (macro_m (call 8 (sx (ls (id 4 0 ▹ nil)) ▹ stop (id 4 0) ▹ nil)) use_m)))
    ≡ writes 400 148 image_stopped_macro
unfolding expand_job syntax_bytes lent_table lent_output no_sets image_stopped_macro
stopped-macro = refl

image_stopped_variable_heads : List ℕ
image_stopped_variable_heads =
    1 ∷ 3 ∷ 1 ∷ 120 ∷ 1 ∷ 109 ∷ 1 ∷ 122 ∷ 3 ∷ 5 ∷ 3 ∷ 4 ∷ 7 ∷ 1 ∷ 1 ∷ 5 ∷ 8 ∷ 2 ∷ 1 ∷ 2 ∷ 6 ∷ 9 ∷ 1 ∷ 3 ∷ 5 ∷ 0 ∷ 0 ∷ 0 ∷ 3 ∷ 0 ∷ 0 ∷ 0 ∷ 0 ∷ 0 ∷ 0
    ∷ 1 ∷ 1 ∷ 0 ∷ 0 ∷ 4 ∷ 5 ∷ 2 ∷ 1 ∷ 5 ∷ 0 ∷ 0 ∷ 2 ∷ 0 ∷ 1 ∷ 1 ∷ 0 ∷ 0 ∷ 4 ∷ 1 ∷ 2 ∷ 1 ∷ 5 ∷ 0 ∷ 0 ∷ 1 ∷ []

-- (lambda x (let-syntax m (lambda z (#8 (syntax (x 1)) (#4 (syntax x) (quote ())))) (m)))
stopped_variable_heads : expanded (image_xmz (ls (lambda' ▹ id 4 0 ▹ macro_m (call 8 (sx (ls (id 4 0 ▹ num 1 ▹ nil)) ▹ stop (id 4 0) ▹ nil)) use_m ▹ nil)))
    ≡ writes 400 130 image_stopped_variable_heads
unfolding expand_job syntax_bytes lent_table lent_output no_sets image_stopped_variable_heads
stopped_variable_heads = refl

-- (lambda x (let-syntax m (lambda z (#8 (syntax x) (#4 (syntax x) (quote ())))) (m)))
a_stop_alone : expanded (image_xmz (ls (lambda' ▹ id 4 0 ▹ macro_m (call 8 (sx (id 4 0) ▹ stop (id 4 0) ▹ nil)) use_m ▹ nil)))
    ≡ refuses 400 lent_output 8 111
unfolding expand_job syntax_bytes lent_table lent_output no_sets
a_stop_alone = refl

-- (lambda x (let-syntax m (lambda z (#8 (syntax (lambda z x)) (#4 (syntax x) (quote ())))) (m)))
a_stop_alone_in_a_body : expanded (image_xmz (ls (lambda' ▹ id 4 0 ▹ macro_m (call 8 (sx (ls (lambda' ▹ id 6 0 ▹ id 4 0 ▹ nil)) ▹ stop (id 4 0) ▹ nil)) use_m ▹ nil)))
    ≡ refuses 400 lent_output 8 129
unfolding expand_job syntax_bytes lent_table lent_output no_sets
a_stop_alone_in_a_body = refl

-- (let-syntax m (lambda z (#8 (syntax 1) (#4 (syntax x) (quote ())))) (m))
a_stop_without_meaning : expanded (image_xmz (macro_m (call 8 (sx (num 1) ▹ stop (id 4 0) ▹ nil)) use_m)) ≡ refuses 400 lent_output 11 83
unfolding expand_job syntax_bytes lent_table lent_output no_sets
a_stop_without_meaning = refl

-- (let-syntax m (lambda z (#8 1 (quote ()))) (m))
nothing_to_expand : expanded (image_xmz (macro_m (call 8 (num 1 ▹ none' ▹ nil)) use_m)) ≡ refuses 400 lent_output 11 54
unfolding expand_job syntax_bytes lent_table lent_output no_sets
nothing_to_expand = refl

-- (let-syntax m (lambda z (#8 (syntax 1) 1)) (m))
stops_that_are_no_list : expanded (image_xmz (macro_m (call 8 (sx (num 1) ▹ num 1 ▹ nil)) use_m)) ≡ refuses 400 lent_output 11 54
unfolding expand_job syntax_bytes lent_table lent_output no_sets
stops_that_are_no_list = refl

-- (let-syntax m (lambda z (#8 (syntax 1) (#4 (syntax 1) (quote ())))) (m))
a_stop_that_is_no_identifier : expanded (image_xmz (macro_m (call 8 (sx (num 1) ▹ stop (num 1) ▹ nil)) use_m)) ≡ refuses 400 lent_output 11 83
unfolding expand_job syntax_bytes lent_table lent_output no_sets
a_stop_that_is_no_identifier = refl

-- a macro that is stopped has no value to ask for: (let-syntax x (lambda z (syntax 5)) (let-syntax m (lambda z (#8 (first (rest (stx-e z))) (#4 (syntax x) (quote
-- ())))) (let-syntax z (lambda z ((#7 (syntax x)) z)) (m (z)))))
asked_for_where_it_is_stopped : expanded (image_xmz (macro_x (sx (num 5)) (macro_m (call 8 (handed ▹ stop (id 4 0) ▹ nil)) (macro_z (ls (call 7 (sx (id 4 0) ▹ nil) ▹ id 6 0 ▹ nil)) (ls (id 5 0 ▹ ls (id 6 0 ▹ nil) ▹ nil))))))
    ≡ refuses 400 lent_output 11 260
unfolding expand_job syntax_bytes lent_table lent_output no_sets
asked_for_where_it_is_stopped = refl

image_asked_for_where_it_is_not : List ℕ
image_asked_for_where_it_is_not =
    1 ∷ 3 ∷ 1 ∷ 120 ∷ 1 ∷ 109 ∷ 1 ∷ 122 ∷ 6 ∷ 10 ∷ 6 ∷ 4 ∷ 7 ∷ 1 ∷ 1 ∷ 5 ∷ 9 ∷ 2 ∷ 1 ∷ 3 ∷ 6 ∷ 11 ∷ 3 ∷ 1 ∷ 3 ∷ 5 ∷ 6 ∷ 8 ∷ 1 ∷ 2 ∷ 6 ∷ 10 ∷ 1 ∷ 4
    ∷ 6 ∷ 12 ∷ 1 ∷ 6 ∷ 1 ∷ 1 ∷ 10 ∷ 0 ∷ 0 ∷ 5 ∷ []

-- the same without the stop gives 5
asked_for_where_it_is_not : expanded (image_xmz (macro_x (sx (num 5)) (macro_m (call 8 (handed ▹ none' ▹ nil)) (macro_z (ls (call 7 (sx (id 4 0) ▹ nil) ▹ id 6 0 ▹ nil)) (ls (id 5 0 ▹ ls (id 6 0 ▹ nil) ▹ nil))))))
    ≡ writes 400 239 image_asked_for_where_it_is_not
unfolding expand_job syntax_bytes lent_table lent_output no_sets image_asked_for_where_it_is_not
asked_for_where_it_is_not = refl

-- ---- 9: an identifier without the use scopes

image_as_it_comes : List ℕ
image_as_it_comes =
    1 ∷ 3 ∷ 1 ∷ 120 ∷ 1 ∷ 109 ∷ 1 ∷ 122 ∷ 2 ∷ 4 ∷ 2 ∷ 5 ∷ 7 ∷ 1 ∷ 1 ∷ 6 ∷ 8 ∷ 1 ∷ 2 ∷ 5 ∷ 2 ∷ 1 ∷ 3 ∷ 0 ∷ 0 ∷ 2 ∷ 0 ∷ 1 ∷ 4 ∷ 0 ∷ 0 ∷ 2 ∷ 0 ∷ 2 ∷ 1
    ∷ 3 ∷ 0 ∷ 0 ∷ 4 ∷ []

-- (let-syntax m (lambda z (#1 (#4 (syntax quote) (#4 (first (rest (stx-e z))) (quote ()))) z)) (m x)): x has scope 1 of m and the use scope, 3
as_it_comes : expanded (image_xmz (macro_m (call 1 (call 4 (sx quote' ▹ call 4 (handed ▹ none' ▹ nil) ▹ nil) ▹ id 6 0 ▹ nil)) (ls (id 5 0 ▹ id 4 0 ▹ nil))))
    ≡ writes 400 144 image_as_it_comes
unfolding expand_job syntax_bytes lent_table lent_output no_sets image_as_it_comes
as_it_comes = refl

image_fit_to_bind : List ℕ
image_fit_to_bind =
    1 ∷ 3 ∷ 1 ∷ 120 ∷ 1 ∷ 109 ∷ 1 ∷ 122 ∷ 2 ∷ 4 ∷ 2 ∷ 5 ∷ 7 ∷ 1 ∷ 1 ∷ 6 ∷ 8 ∷ 1 ∷ 2 ∷ 5 ∷ 2 ∷ 1 ∷ 3 ∷ 0 ∷ 0 ∷ 2 ∷ 0 ∷ 1 ∷ 4 ∷ 0 ∷ 0 ∷ 2 ∷ 0 ∷ 1 ∷ 1
    ∷ 0 ∷ 0 ∷ 4 ∷ []

-- with #9 around (first (rest (stx-e z))) it has 1 alone
fit_to_bind_lem : expanded (image_xmz (macro_m (call 1 (call 4 (sx quote' ▹ call 4 (call 9 (handed ▹ nil) ▹ none' ▹ nil) ▹ nil) ▹ id 6 0 ▹ nil)) (ls (id 5 0 ▹ id 4 0 ▹ nil))))
    ≡ writes 400 158 image_fit_to_bind
unfolding expand_job syntax_bytes lent_table lent_output no_sets image_fit_to_bind
fit_to_bind_lem = refl

-- (let-syntax m (lambda z (#9 1)) (m))
nothing_to_bind : expanded (image_xmz (macro_m (call 9 (num 1 ▹ nil)) use_m)) ≡ refuses 400 lent_output 11 43
unfolding expand_job syntax_bytes lent_table lent_output no_sets
nothing_to_bind = refl

-- ---- 6, with the places of two that compete: x{1,2}, where x{1} is bound to 7 and x{2} to 8

-- (let-syntax m (lambda z (#7 (syntax x))) (m))
unclear-meaning : expanded (syntax_bytes (head (wx ∷ wm ∷ wz ∷ []) 9 2) (to 4 s1 7 ∷ to 4 s2 8 ∷ []) (macro_m (call 7 (sx (id 4 s12) ▹ nil)) use_m))
    ≡ rivals-at 1 2 400 lent_output 48
unfolding expand_job syntax_bytes lent_table lent_output no_sets
unclear-meaning = refl

-- (let-syntax m (lambda z (#8 (syntax 1) (#4 (syntax x) (quote ())))) (m))
unclear_stop : expanded (syntax_bytes (head (wx ∷ wm ∷ wz ∷ []) 9 2) (to 4 s1 7 ∷ to 4 s2 8 ∷ []) (macro_m (call 8 (sx (num 1) ▹ stop (id 4 s12) ▹ nil)) use_m))
    ≡ rivals-at 1 2 400 lent_output 83
unfolding expand_job syntax_bytes lent_table lent_output no_sets
unclear_stop = refl
