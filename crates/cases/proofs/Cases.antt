-- Beside the samples: the program's line for the image shown whole, a wrong turn, the tags that no sample has, hygiene both ways round, and scope
-- numbers of two groups. Each call of a job is from image bytes to the whole answer: code, units, name, length, places, output and table.
use mathlib.Core.Path.{◌≡◌, refl}
use Prim.Native.Nat.{ℕ}
use mathlib.Core.List.{List, [], ◌∷◌}
use Rattle.model.specs.Objects.{no_sets, Stx, nil}
use Rattle.model.specs.Writing.{set_bytes, syntax_bytes}
use Rattle.model.specs.Scopes.{only}
use Rattle.model.specs.Jobs.{resolve_job, expand_job, parse_job, evaluate_job, program, line_bytes}
use Rattle.cases.proofs.Notation.{id, ls, ◌▹◌, lambda', let_syntax', syntax', call, image_xmz, lent_table, lent_output, rivals-at, writes, resolved, expanded, parsed, evaluated}
use Rattle.cases.proofs.Images.{given_7, tree_12}

-- ---- the image shown whole, (lambda x x) with no scopes, and the program's line `code 0 units 14`

shown_whole_line : program given_7 ≡ record { code = 0; units = 14 }
unfolding program
shown_whole_line = refl

-- `code 0 units 14` and the end of the line, as bytes
shown_whole_printed : line_bytes (program given_7)
    ≡ 99 ∷ 111 ∷ 100 ∷ 101 ∷ 32 ∷ 48 ∷ 32 ∷ 117 ∷ 110 ∷ 105 ∷ 116 ∷ 115 ∷ 32 ∷ 49 ∷ 52 ∷ 10 ∷ []
unfolding program line_bytes
shown_whole_printed = refl

-- ---- the first wrong turn

-- x{1,2,3}; x{1,2} to 6, x{3} to 7; words and counts as in samples 1 to 6
abbrev given_most_scopes : List ℕ
given_most_scopes =
    1 ∷ 2 ∷ 1 ∷ 120 ∷ 1 ∷ 121 ∷ 3 ∷ 3
    ∷ 2 ∷ 4 ∷ 6 ∷ 2 ∷ 1 ∷ 2 ∷ 4 ∷ 7 ∷ 1 ∷ 3
    ∷ 0 ∷ 3 ∷ 1 ∷ 2 ∷ 3 ∷ 0 ∷ 0 ∷ 4 ∷ []

-- not the candidate with the most scopes: its two bindings compete
most-scopes : resolved 0 given_most_scopes ≡ rivals-at 1 2 16 [] 1
unfolding resolve_job lent_table
most-scopes = refl

-- ---- the tags that no sample has, so that every tag of both kinds of image stands somewhere in bytes. With x = 4 and two scopes,
-- (link (syntax x) (quote (x 4294967295 @1023 #6 '15))), where the x of `syntax` has {1} at phase 0, {2} at phase 1 and {1,2} at phase 2. `link` is
-- primitive 4. Each atom but x is the last of its kind, so that no two tags can be exchanged: 4294967295 is in five groups, 255 255 255 255 15, and
-- 1023 in two, 255 7.

abbrev given_tags : List ℕ
given_tags =
    1 ∷ 1 ∷ 1 ∷ 120 ∷ 0 ∷ 2 ∷ 0
    -- (link ..
    ∷ 5 ∷ 0 ∷ 0 ∷ 0 ∷ 3 ∷ 3 ∷ 0 ∷ 0 ∷ 0 ∷ 4
    -- (syntax x)
    ∷ 5 ∷ 0 ∷ 0 ∷ 0 ∷ 2 ∷ 0 ∷ 0 ∷ 0 ∷ 0 ∷ 3 ∷ 0 ∷ 1 ∷ 1 ∷ 1 ∷ 2 ∷ 2 ∷ 1 ∷ 2 ∷ 4
    -- (quote ..
    ∷ 5 ∷ 0 ∷ 0 ∷ 0 ∷ 2 ∷ 0 ∷ 0 ∷ 0 ∷ 0 ∷ 2
    -- (x 4294967295 @1023 #6 '15)
    ∷ 5 ∷ 0 ∷ 0 ∷ 0 ∷ 5 ∷ 0 ∷ 0 ∷ 0 ∷ 0 ∷ 4 ∷ 1 ∷ 0 ∷ 0 ∷ 0 ∷ 255 ∷ 255 ∷ 255 ∷ 255 ∷ 15
    ∷ 2 ∷ 0 ∷ 0 ∷ 0 ∷ 255 ∷ 7 ∷ 3 ∷ 0 ∷ 0 ∷ 0 ∷ 6 ∷ 4 ∷ 0 ∷ 0 ∷ 0 ∷ 15 ∷ []

abbrev tree_tags : List ℕ
tree_tags =
    2 ∷ 1 ∷ 1 ∷ 120 ∷ 0 ∷ 2
    -- primitive 4 applied to
    ∷ 1 ∷ 3 ∷ 3 ∷ 3 ∷ 4
    -- the syntax value x
    ∷ 5 ∷ 0 ∷ 1 ∷ 1 ∷ 1 ∷ 2 ∷ 2 ∷ 1 ∷ 2 ∷ 4
    -- and the list value of the five atoms
    ∷ 4 ∷ 5 ∷ 3 ∷ 0 ∷ 4 ∷ 3 ∷ 1 ∷ 255 ∷ 255 ∷ 255 ∷ 255 ∷ 15 ∷ 3 ∷ 2 ∷ 255 ∷ 7 ∷ 3 ∷ 3 ∷ 6 ∷ 3 ∷ 4 ∷ 15 ∷ []

-- the list value with the syntax value in front
abbrev value_tags : List ℕ
value_tags =
    2 ∷ 1 ∷ 1 ∷ 120 ∷ 0 ∷ 2
    ∷ 4 ∷ 6
    ∷ 5 ∷ 0 ∷ 1 ∷ 1 ∷ 1 ∷ 2 ∷ 2 ∷ 1 ∷ 2 ∷ 4
    ∷ 3 ∷ 0 ∷ 4 ∷ 3 ∷ 1 ∷ 255 ∷ 255 ∷ 255 ∷ 255 ∷ 15 ∷ 3 ∷ 2 ∷ 255 ∷ 7 ∷ 3 ∷ 3 ∷ 6 ∷ 3 ∷ 4 ∷ 15 ∷ []

-- units: loading 13, four entries, the quoted data 6
other_tags_parsed : parsed given_tags ≡ writes 400 23 tree_tags
unfolding parse_job lent_table lent_output
other_tags_parsed = refl

-- units: loading 9, four entries, the primitive 1
other_tags_evaluated : evaluated 14 tree_tags ≡ writes 14 14 value_tags
unfolding evaluate_job lent_table lent_output
other_tags_evaluated = refl

-- ---- hygiene, both ways round: in each, a macro's x and the user's x meet in one function (lambda x x), and the tree is that of sample 12,
-- function 7 of function 10 of variable 7. `macro-rung r` is (lambda x (let-syntax m r (m x))), with x, m, z = 4, 5, 6.

abbrev macro-rung : Stx → Stx
macro-rung r = ls (lambda' ▹ id 4 0 ▹ ls (let_syntax' ▹ id 5 0 ▹ r ▹ ls (id 5 0 ▹ id 4 0 ▹ nil) ▹ nil) ▹ nil)

-- (lambda z (mk-stx parts z))
abbrev makes : Stx → Stx
makes parts = ls (lambda' ▹ id 6 0 ▹ call 1 (parts ▹ id 6 0 ▹ nil) ▹ nil)

-- (link a l)
abbrev link' : Stx → Stx → Stx
link' a l = call 4 (a ▹ l ▹ nil)

-- what follows m in its use, and what follows that: (rest (stx-e z)), (rest (rest (stx-e z)))
abbrev argument' : Stx
argument' = call 3 (call 0 (id 6 0 ▹ nil) ▹ nil)

abbrev no_more' : Stx
no_more' = call 3 (argument' ▹ nil)

abbrev own_lambda : Stx
own_lambda = ls (syntax' ▹ lambda' ▹ nil)

abbrev own_x : Stx
own_x = ls (syntax' ▹ id 4 0 ▹ nil)

-- The macro's own binder does not take the user's variable: (m x) becomes (lambda x x), the first x the macro's own.
-- The result is (lambda x{1} (lambda{1,5} x{1,5,6} x{1}){1,2,4}).
image_own_binder : List ℕ
image_own_binder =
    1 ∷ 3 ∷ 1 ∷ 120 ∷ 1 ∷ 109 ∷ 1 ∷ 122 ∷ 4 ∷ 6 ∷ 4 ∷ 4 ∷ 7 ∷ 1 ∷ 1 ∷ 4 ∷ 10 ∷ 3 ∷ 1 ∷ 5 ∷ 6 ∷ 5 ∷ 8 ∷ 2 ∷ 1 ∷ 2 ∷ 6 ∷ 9 ∷ 1 ∷ 3 ∷ 5 ∷ 0 ∷ 0 ∷ 0 ∷ 3
    ∷ 0 ∷ 0 ∷ 0 ∷ 0 ∷ 0 ∷ 0 ∷ 1 ∷ 1 ∷ 0 ∷ 0 ∷ 4 ∷ 5 ∷ 3 ∷ 1 ∷ 2 ∷ 4 ∷ 0 ∷ 0 ∷ 3 ∷ 0 ∷ 2 ∷ 1 ∷ 5 ∷ 0 ∷ 0 ∷ 0 ∷ 0 ∷ 3 ∷ 1 ∷ 5 ∷ 6 ∷ 0 ∷ 0 ∷ 4 ∷ 0 ∷ 1
    ∷ 1 ∷ 0 ∷ 0 ∷ 4 ∷ []

own_binder_expanded : expanded (image_xmz (macro-rung (makes (link' own_lambda (link' own_x argument'))))) ≡ writes 400 167 image_own_binder
unfolding expand_job syntax_bytes lent_table lent_output no_sets image_own_binder
own_binder_expanded = refl

own_binder_parsed : parsed image_own_binder ≡ writes 400 10 tree_12
unfolding parse_job lent_table lent_output image_own_binder
own_binder_parsed = refl

-- The user's binder does not take the macro's variable: (m x) becomes (lambda x x), the second x the macro's own, which is the
-- outer one. The result is (lambda x{1} (lambda{1,5} x{1,2,4,6} x{1}){1,2,4}).
image_own_variable : List ℕ
image_own_variable =
    1 ∷ 3 ∷ 1 ∷ 120 ∷ 1 ∷ 109 ∷ 1 ∷ 122 ∷ 4 ∷ 6 ∷ 4 ∷ 4 ∷ 7 ∷ 1 ∷ 1 ∷ 4 ∷ 10 ∷ 4 ∷ 1 ∷ 2 ∷ 4 ∷ 6 ∷ 5 ∷ 8 ∷ 2 ∷ 1 ∷ 2 ∷ 6 ∷ 9 ∷ 1 ∷ 3 ∷ 5 ∷ 0 ∷ 0 ∷ 0
    ∷ 3 ∷ 0 ∷ 0 ∷ 0 ∷ 0 ∷ 0 ∷ 0 ∷ 1 ∷ 1 ∷ 0 ∷ 0 ∷ 4 ∷ 5 ∷ 3 ∷ 1 ∷ 2 ∷ 4 ∷ 0 ∷ 0 ∷ 3 ∷ 0 ∷ 2 ∷ 1 ∷ 5 ∷ 0 ∷ 0 ∷ 0 ∷ 0 ∷ 4 ∷ 1 ∷ 2 ∷ 4 ∷ 6 ∷ 0 ∷ 0 ∷ 4
    ∷ 0 ∷ 1 ∷ 1 ∷ 0 ∷ 0 ∷ 4 ∷ []

own_variable_expanded : expanded (image_xmz (macro-rung (makes (link' own_lambda (link' (call 2 (argument' ▹ nil)) (link' own_x no_more'))))))
    ≡ writes 400 249 image_own_variable
unfolding expand_job syntax_bytes lent_table lent_output no_sets image_own_variable
own_variable_expanded = refl

own_variable_parsed : parsed image_own_variable ≡ writes 400 10 tree_12
unfolding parse_job lent_table lent_output image_own_variable
own_variable_parsed = refl

-- request T-09: a scope number from 128 on takes two groups, and 256 is the last
scope_127_written : set_bytes (only 127) ≡ 1 ∷ 127 ∷ []
unfolding set_bytes only
scope_127_written = refl

scope_128_written : set_bytes (only 128) ≡ 1 ∷ 128 ∷ 1 ∷ []
unfolding set_bytes only
scope_128_written = refl

scope_256_written : set_bytes (only 256) ≡ 1 ∷ 128 ∷ 2 ∷ []
unfolding set_bytes only
scope_256_written = refl
