-- Request T-11, cases worked out by hand: an image made smaller, from bytes to bytes. The object stands above each, with its bindings.
use Prim.Native.Nat.{ℕ}
use mathlib.Core.Path.{◌≡◌, refl}
use mathlib.Core.List.{List, [], ◌∷◌, ◌++◌}
use lib.ListN.{replicate}
use Rattle.model.specs.Refusals.{layout, over_limit, wrong_kind, no_scope_left}
use Rattle.model.specs.Competing.{no_rivals}
use Rattle.model.specs.Jobs.{Ending, refused, written, expand_ending}
use Rattle.shrinking.specs.Shrunk.{shrink_ending}
use Rattle.shrinking.specs.ShrinkJob.{shrink_job}

-- ---- notation: an output of 65,536 bytes; the words x = 4 and y = 5, n scopes, and bindings behind their count

abbrev shrinks : List ℕ → Ending
shrinks image = shrink_ending image 65536

abbrev xy : ℕ → List ℕ → List ℕ
xy n rest = 1 ∷ 2 ∷ 1 ∷ 120 ∷ 1 ∷ 121 ∷ 0 ∷ n ∷ rest

-- a symbol with one scope at phase 0
abbrev one : ℕ → ℕ → List ℕ → List ℕ
one x k rest = 0 ∷ 1 ∷ k ∷ 0 ∷ 0 ∷ x ∷ rest

-- and one without
abbrev bare : ℕ → List ℕ → List ℕ
bare x rest = 0 ∷ 0 ∷ 0 ∷ 0 ∷ x ∷ rest

-- the binding of x with one scope to t
abbrev bound : ℕ → ℕ → ℕ → List ℕ → List ℕ
bound x t k rest = x ∷ t ∷ 1 ∷ k ∷ rest

-- a list of n parts
abbrev list : ℕ → List ℕ → List ℕ
list n rest = 5 ∷ 0 ∷ 0 ∷ 0 ∷ n ∷ rest

-- ---- which bindings stay

-- x{1}; x{1} to y
pub its_own_set : shrinks (xy 1 (1 ∷ bound 4 5 1 (one 4 1 []))) ≡ written (xy 1 (1 ∷ bound 4 5 1 (one 4 1 []))) 0
unfolding shrink_ending
its_own_set = refl

-- x{1}; x{1,2} to y: contained the other way round is not enough
pub too_large : shrinks (xy 2 (1 ∷ 4 ∷ 5 ∷ 2 ∷ 1 ∷ 2 ∷ one 4 1 [])) ≡ written (xy 1 (0 ∷ one 4 1 [])) 0
unfolding shrink_ending
too_large = refl

-- y{1}; x{1} to y
pub another_symbol : shrinks (xy 1 (1 ∷ bound 4 5 1 (one 5 1 []))) ≡ written (xy 1 (0 ∷ one 5 1 [])) 0
unfolding shrink_ending
another_symbol = refl

-- x{1|2}; x{1,2} to y: in both phases together, in none alone
pub in_no_phase : shrinks (xy 2 (1 ∷ 4 ∷ 5 ∷ 2 ∷ 1 ∷ 2 ∷ 0 ∷ 1 ∷ 1 ∷ 1 ∷ 2 ∷ 0 ∷ 4 ∷ [])) ≡ written (xy 2 (0 ∷ 0 ∷ 1 ∷ 1 ∷ 1 ∷ 2 ∷ 0 ∷ 4 ∷ [])) 0
unfolding shrink_ending
in_no_phase = refl

-- x{||1}; x{1} to y
pub at_phase_2 : shrinks (xy 1 (1 ∷ bound 4 5 1 (0 ∷ 0 ∷ 0 ∷ 1 ∷ 1 ∷ 4 ∷ []))) ≡ written (xy 1 (1 ∷ bound 4 5 1 (0 ∷ 0 ∷ 0 ∷ 1 ∷ 1 ∷ 4 ∷ []))) 0
unfolding shrink_ending
at_phase_2 = refl

-- (quote x{1}); x{1} to y
pub in_quoted_text : shrinks (xy 1 (1 ∷ bound 4 5 1 (list 2 (bare 2 (one 4 1 []))))) ≡ written (xy 1 (1 ∷ bound 4 5 1 (list 2 (bare 2 (one 4 1 []))))) 0
unfolding shrink_ending
in_quoted_text = refl

-- (syntax x{1}); x{1} to y
pub in_syntax_text : shrinks (xy 1 (1 ∷ bound 4 5 1 (list 2 (bare 3 (one 4 1 []))))) ≡ written (xy 1 (1 ∷ bound 4 5 1 (list 2 (bare 3 (one 4 1 []))))) 0
unfolding shrink_ending
in_syntax_text = refl

-- ---- which scopes stay, and their numbers

-- (x{2} y{5}); x{2} to y, x{3} to y, y{5} to x, of seven scopes
pub in_order : shrinks (xy 7 (3 ∷ bound 4 5 2 (bound 4 5 3 (bound 5 4 5 (list 2 (one 4 2 (one 5 5 [])))))))
    ≡ written (xy 2 (2 ∷ bound 4 5 1 (bound 5 4 2 (list 2 (one 4 1 (one 5 2 [])))))) 0
unfolding shrink_ending
in_order = refl

-- (1{4}){2}, of four scopes: those of lists and numbers stay
pub of_any_object : shrinks (xy 4 (0 ∷ 5 ∷ 1 ∷ 2 ∷ 0 ∷ 0 ∷ 1 ∷ 1 ∷ 1 ∷ 4 ∷ 0 ∷ 0 ∷ 1 ∷ [])) ≡ written (xy 2 (0 ∷ 5 ∷ 1 ∷ 1 ∷ 0 ∷ 0 ∷ 1 ∷ 1 ∷ 1 ∷ 2 ∷ 0 ∷ 0 ∷ 1 ∷ [])) 0
unfolding shrink_ending
of_any_object = refl

-- x{129}, of 256 scopes: a number of two groups becomes one of one
pub two-groups : shrinks (1 ∷ 1 ∷ 1 ∷ 120 ∷ 0 ∷ 128 ∷ 2 ∷ 0 ∷ 0 ∷ 1 ∷ 129 ∷ 1 ∷ 0 ∷ 0 ∷ 4 ∷ []) ≡ written (1 ∷ 1 ∷ 1 ∷ 120 ∷ 0 ∷ 1 ∷ 0 ∷ one 4 1 []) 0
unfolding shrink_ending
two-groups = refl

-- ---- room for later work: (lambda x x) with 256 scopes, none of which is in a set

abbrev crowded : List ℕ
crowded = 1 ∷ 1 ∷ 1 ∷ 120 ∷ 0 ∷ 128 ∷ 2 ∷ 0 ∷ list 3 (bare 0 (bare 4 (bare 4 [])))

abbrev roomy : List ℕ
roomy = 1 ∷ 1 ∷ 1 ∷ 120 ∷ 0 ∷ 0 ∷ 0 ∷ list 3 (bare 0 (bare 4 (bare 4 [])))

pub no_room : expand_ending crowded 0 1024 65536 ≡ refused no_scope_left no_rivals 5
unfolding expand_ending
no_room = refl

pub freed : shrinks crowded ≡ written roomy 0
unfolding shrink_ending
freed = refl

-- (lambda x{1} x{1}); x{1} to 5, a made name
pub taken_again : expand_ending roomy 0 1024 65536 ≡ written (1 ∷ 1 ∷ 1 ∷ 120 ∷ 1 ∷ 1 ∷ 1 ∷ bound 4 5 1 (list 3 (bare 0 (one 4 1 (one 4 1 []))))) 8
unfolding expand_ending
taken_again = refl

-- ---- refusals, which leave the output as it was

pub no_bytes : shrinks [] ≡ refused layout no_rivals 0
unfolding shrink_ending
no_bytes = refl

-- a tree
pub a_tree : shrinks (2 ∷ 0 ∷ 0 ∷ 0 ∷ 3 ∷ 1 ∷ 1 ∷ []) ≡ refused wrong_kind no_rivals 0
unfolding shrink_ending
a_tree = refl

-- 257 scopes
pub many_scopes : shrinks (1 ∷ 0 ∷ 0 ∷ 129 ∷ 2 ∷ []) ≡ refused over_limit no_rivals 0
unfolding shrink_ending
many_scopes = refl

-- x{1}; x{1,2} to y: the smaller image has 15 bytes, the image 20
pub just_enough : shrink_job (xy 2 (1 ∷ 4 ∷ 5 ∷ 2 ∷ 1 ∷ 2 ∷ one 4 1 [])) (replicate 17 90)
    ≡ record { answer = record { code = 0; units = 0; name = 0; len = 15; first = 0; second = 0 }; output = xy 1 (0 ∷ one 4 1 []) ++ 90 ∷ 90 ∷ [] }
unfolding shrink_job
just_enough = refl

pub one_byte_short : shrink_job (xy 2 (1 ∷ 4 ∷ 5 ∷ 2 ∷ 1 ∷ 2 ∷ one 4 1 [])) (replicate 14 90)
    ≡ record { answer = record { code = 20; units = 0; name = 0; len = 0; first = 0; second = 0 }; output = replicate 14 90 }
unfolding shrink_job
one_byte_short = refl
