-- Two bindings compared by symbol first, then by set.
use mathlib.Core.Path.{◌≡◌, refl, sym, ap, ◌∙◌}
use mathlib.Core.Bool.{Bool, true, false, not, false≢true}
use Prim.Native.Nat.{ℕ}
use native.Mathlib.Omega.{arith}
use lib.Dec.{ltb, eqb}
use borrow.Author.Tests.{eq-eqb, ne_eqb, le-ltb, eqb-true}
use Rattle.model.specs.Scopes.{Scopes, within, less_then, set_before}
use Rattle.model.specs.Resolving.{Bind, bind_before, candidate}

-- what a test of `!=` tells
pub unlike : {a b : ℕ} → true ≡ not (eqb a b) → a ≡ b → ⊥
unlike {a} {b} e q = false≢true (sym (e ∙ ap not (eq-eqb a b q)))

pub alike : {a b : ℕ} → false ≡ not (eqb a b) → a ≡ b
alike {a} {b} e = go (eqb a b) refl e
  where
    go : (t : Bool) → eqb a b ≡ t → false ≡ not t → a ≡ b
    go true f k = eqb-true a b f
    go false f k = absurd (false≢true k)

differs : (t r : Bool) → t ≡ less_then t false r
unfolding less_then
differs true r = refl
differs false r = refl

module _ (a b : Bind) where
  pub before_differs : (a.symb ≡ b.symb → ⊥) → ltb a.symb b.symb ≡ bind_before a b
  unfolding bind_before
  before_differs h = rw (ne_eqb a.symb b.symb h) (differs (ltb a.symb b.symb) (set_before a.set b.set))

  pub before_alike : a.symb ≡ b.symb → set_before a.set b.set ≡ bind_before a b
  unfolding bind_before less_then
  before_alike e = rw (le-ltb a.symb b.symb (omega arith), eq-eqb a.symb b.symb e)

module _ (x : ℕ) (s : Scopes) (b : Bind) where
  pub other-symbol : {t : Bool} → (b.symb ≡ x → ⊥) → t ≡ false → t ≡ candidate x s b
  unfolding candidate
  other-symbol n e = rw (ne_eqb b.symb x n) e

  pub own_symbol : {t : Bool} → b.symb ≡ x → t ≡ within b.set s → t ≡ candidate x s b
  unfolding candidate
  own_symbol e h = rw (eq-eqb b.symb x e) h
