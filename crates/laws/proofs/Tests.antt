-- Tests joined by `&&` and `||`, as equations; a test that fails, one of a name among others, and two that go together. What a single test tells is the kit's
-- (`borrow.Author.Tests`).
use mathlib.Core.Path.{◌≡◌, refl, sym, ap, ◌∙◌}
use mathlib.Core.Bool.{Bool, true, false, ◌&&◌, ◌||◌, or-false, or_assoc, false≢true}
use mathlib.Core.List.{List, [], ◌∷◌, ◌++◌}
use Prim.Native.Nat.{ℕ}
use lib.Dec.{eqb}
use Rattle.model.specs.Meanings.{is_among}

pub and_both : (a b : Bool) → (a && b) ≡ true → (a ≡ true) × (b ≡ true)
and_both true b e = (refl, e)
and_both false b e = absurd (false≢true e)

pub both_true : (a b : Bool) → a ≡ true → b ≡ true → (a && b) ≡ true
both_true true b p q = q
both_true false b p q = absurd (false≢true p)

pub or_left : (a b : Bool) → a ≡ true → (a || b) ≡ true
or_left true b p = refl
or_left false b p = absurd (false≢true p)

pub or_right : (a b : Bool) → b ≡ true → (a || b) ≡ true
or_right true b p = refl
or_right false b p = p

pub not_so : (a : Bool) → (a ≡ true → ⊥) → a ≡ false
not_so true h = absurd (h refl)
not_so false h = refl

-- a name more at the end
pub among-more : (k n : ℕ) (l : List ℕ) → is_among k (l ++ n ∷ []) ≡ (is_among k l || eqb k n)
unfolding is_among
among-more k n [] = or-false (eqb k n)
among-more k n (m ∷ l) = ap (λ (t : Bool). eqb k m || t) (among-more k n l) ∙ sym (or_assoc (eqb k m) (is_among k l) (eqb k n))

-- two tests, each of which gives the other
pub same_test : (a b : Bool) → (a ≡ true → b ≡ true) → (b ≡ true → a ≡ true) → a ≡ b
same_test true b f g = sym (f refl)
same_test false true f g = g refl
same_test false false f g = refl
