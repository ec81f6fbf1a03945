-- Request T-03: the use scope is prunable in what a macro use expands to. With x, m, z = 4, 5, 6, `handed_on_lem u` is
-- (let-syntax m (lambda z (first (rest (stx-e z)))) (m u)): the macro gives back what it was given.
use mathlib.Core.Path.{◌≡◌, refl}
use Prim.Native.Nat.{ℕ}
use mathlib.Core.List.{List, [], ◌∷◌}
use Rattle.model.specs.Objects.{no_sets, Stx, nil}
use Rattle.model.specs.Writing.{syntax_bytes}
use Rattle.model.specs.Jobs.{expand_job}
use Rattle.cases.proofs.Notation.{id, ls, ◌▹◌, lambda', let_syntax', syntax', call, image_xmz, lent_table, lent_output, writes, expanded}

abbrev handed_on_lem : Stx → Stx
handed_on_lem u =
    ls (let_syntax' ▹ id 5 0 ▹ ls (lambda' ▹ id 6 0 ▹ call 2 (call 3 (call 0 (id 6 0 ▹ nil) ▹ nil) ▹ nil) ▹ nil) ▹ ls (id 5 0 ▹ u ▹ nil) ▹ nil)

-- (syntax x)
abbrev syntax_x : Stx
syntax_x = ls (syntax' ▹ id 4 0 ▹ nil)

-- (m (syntax x)) gives (syntax x{}){1,3}. By the rule of document 01 alone it was x{3}: the use scope, 3, stayed.
-- Units: loading 18; let-syntax 1, its binder 1; the right-hand side expanded 16, parsed 8, evaluated 1; the scope on the body 5; the use 1, its two
-- marks 5 and 5; the macro applied 3, substituted 7, evaluated 10; flipped back 3; the result 1, pruned 1.
image_survives : List ℕ
image_survives =
    1 ∷ 3 ∷ 1 ∷ 120 ∷ 1 ∷ 109 ∷ 1 ∷ 122 ∷ 2 ∷ 4 ∷ 2 ∷ 5 ∷ 7 ∷ 1 ∷ 1 ∷ 6 ∷ 8 ∷ 1 ∷ 2 ∷ 5 ∷ 2 ∷ 1 ∷ 3 ∷ 0 ∷ 0 ∷ 2 ∷ 0 ∷ 2 ∷ 1 ∷ 3 ∷ 0 ∷ 0 ∷ 3 ∷ 0 ∷ 0 ∷ 0 ∷ 0
    ∷ 4 ∷ []

use_scope_survives : expanded (image_xmz (handed_on_lem syntax_x)) ≡ writes 400 86 image_survives
unfolding expand_job syntax_bytes lent_table lent_output no_sets image_survives
use_scope_survives = refl

-- It is prunable for the rest of that expansion: (m (lambda z (syntax x))) gives (lambda z{1,3,5} (syntax x{}){1,3,5}){1,3}, 3 being pruned in the
-- body of the function as well. Units: each of the five charges for the use's text is 3 more, and the lambda 1, its binder 1, the scope on its body 3.
image_survives_inside : List ℕ
image_survives_inside =
    1 ∷ 3 ∷ 1 ∷ 120 ∷ 1 ∷ 109 ∷ 1 ∷ 122 ∷ 3 ∷ 5 ∷ 3 ∷ 5 ∷ 7 ∷ 1 ∷ 1 ∷ 6 ∷ 9 ∷ 3 ∷ 1 ∷ 3 ∷ 5 ∷ 6 ∷ 8 ∷ 1 ∷ 2 ∷ 5 ∷ 2 ∷ 1 ∷ 3 ∷ 0 ∷ 0 ∷ 3 ∷ 0 ∷ 2 ∷ 1 ∷ 3 ∷ 0 ∷ 0 ∷ 0
    ∷ 0 ∷ 3 ∷ 1 ∷ 3 ∷ 5 ∷ 0 ∷ 0 ∷ 6 ∷ 5 ∷ 3 ∷ 1 ∷ 3 ∷ 5 ∷ 0 ∷ 0 ∷ 2 ∷ 0 ∷ 3 ∷ 1 ∷ 3 ∷ 5 ∷ 0 ∷ 0 ∷ 3 ∷ 0 ∷ 0 ∷ 0 ∷ 0 ∷ 4 ∷ []

use_scope_survives_inside : expanded (image_xmz (handed_on_lem (ls (lambda' ▹ id 6 0 ▹ syntax_x ▹ nil)))) ≡ writes 400 106 image_survives_inside
unfolding expand_job syntax_bytes lent_table lent_output no_sets image_survives_inside
use_scope_survives_inside = refl
