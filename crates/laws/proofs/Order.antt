-- The order of bindings, and that an ascending store has no symbol and set twice.
use mathlib.Core.Path.{◌≡◌, refl, sym, ap, ◌∙◌}
use mathlib.Core.Logic.{◌⊎◌, inl, inr}
use Prim.Native.Nat.{ℕ, ◌≤◌, ◌<◌}
use native.Mathlib.Omega.{arith}
use mathlib.Core.Bool.{Bool, true, false, false≢true}
use mathlib.Core.List.{List, [], ◌∷◌}
use lib.Dec.{eqb, ltb}
use Rattle.model.specs.Scopes.{Scopes, less_then, list_before, set_before, members}
use Rattle.model.specs.Resolving.{Bind, bind_before}
use Rattle.laws.specs.Ordered.{Ascending, Sorted}
use borrow.Author.Tests.{lt-ltb, le-ltb, ltb-true, eq-eqb, eqb-true}
use Rattle.laws.proofs.ResolveRule.{In}
use Rattle.laws.proofs.Stable.{Keys}

pub less_cases : (x y : ℕ) (r : Bool) → less_then (ltb x y) (eqb x y) r ≡ true → (x < y) ⊎ ((x ≡ y) × (r ≡ true))
unfolding less_then
less_cases x y r q = go (ltb x y) refl (eqb x y) refl q
  where
    go : (a : Bool) → ltb x y ≡ a → (b : Bool) → eqb x y ≡ b → less_then a b r ≡ true → (x < y) ⊎ ((x ≡ y) × (r ≡ true))
    go true p b k e = inl (ltb-true x y p)
    go false p true k e = inr (eqb-true x y k, e)
    go false p false k e = absurd (false≢true e)

pub less_yes : (x y : ℕ) (r : Bool) → x < y → less_then (ltb x y) (eqb x y) r ≡ true
unfolding less_then
less_yes x y r h = rw (lt-ltb x y h)

less_same : (x y : ℕ) (r : Bool) → x ≡ y → r ≡ true → less_then (ltb x y) (eqb x y) r ≡ true
unfolding less_then
less_same x y r p q = rw (le-ltb x y (back p), eq-eqb x y p) q
  where
    back : x ≡ y → y ≤ x
    back e = omega arith

list_trans : (a b c : List ℕ) → list_before a b ≡ true → list_before b c ≡ true → list_before a c ≡ true
unfolding list_before
list_trans [] [] [] p q = p
list_trans [] [] (z ∷ c) p q = q
list_trans [] (y ∷ b) [] p q = q
list_trans [] (y ∷ b) (z ∷ c) p q = refl
list_trans (x ∷ a) [] [] p q = p
list_trans (x ∷ a) [] (z ∷ c) p q = absurd (false≢true p)
list_trans (x ∷ a) (y ∷ b) [] p q = q
list_trans (x ∷ a) (y ∷ b) (z ∷ c) p q =
    go (less_cases x y (list_before a b) p) (less_cases y z (list_before b c) q) (list_trans a b c)
  where
    go : (x < y) ⊎ ((x ≡ y) × (list_before a b ≡ true)) → (y < z) ⊎ ((y ≡ z) × (list_before b c ≡ true))
        → (list_before a b ≡ true → list_before b c ≡ true → list_before a c ≡ true) → less_then (ltb x z) (eqb x z) (list_before a c) ≡ true
    go (inl h) (inl k) r = less_yes x z (list_before a c) (omega arith)
    go (inl h) (inr k) r = less_yes x z (list_before a c) (omega (arith, k.0))
    go (inr h) (inl k) r = less_yes x z (list_before a c) (omega (arith, h.0))
    go (inr h) (inr k) r = less_same x z (list_before a c) (h.0 ∙ k.0) (r h.1 k.1)

list_self : (a : List ℕ) → list_before a a ≡ true → ⊥
unfolding list_before
list_self [] q = false≢true q
list_self (x ∷ a) q = go (less_cases x x (list_before a a) q) (list_self a)
  where
    go : (x < x) ⊎ ((x ≡ x) × (list_before a a ≡ true)) → (list_before a a ≡ true → ⊥) → ⊥
    go (inl h) r = omega arith
    go (inr h) r = r h.1

pub before_trans : (a b c : Bind) → bind_before a b ≡ true → bind_before b c ≡ true → bind_before a c ≡ true
unfolding bind_before set_before
before_trans a b c p q =
    go (less_cases a.symb b.symb (set_before a.set b.set) p) (less_cases b.symb c.symb (set_before b.set c.set) q)
  where
    go : (a.symb < b.symb) ⊎ ((a.symb ≡ b.symb) × (set_before a.set b.set ≡ true))
        → (b.symb < c.symb) ⊎ ((b.symb ≡ c.symb) × (set_before b.set c.set ≡ true)) → bind_before a c ≡ true
    go (inl h) (inl k) = less_yes a.symb c.symb (set_before a.set c.set) (omega arith)
    go (inl h) (inr k) = less_yes a.symb c.symb (set_before a.set c.set) (omega (arith, k.0))
    go (inr h) (inl k) = less_yes a.symb c.symb (set_before a.set c.set) (omega (arith, h.0))
    go (inr h) (inr k) =
        less_same a.symb c.symb (set_before a.set c.set) (h.0 ∙ k.0)
        (list_trans (members a.set) (members b.set) (members c.set) h.1 k.1)

pub before-other : (a b : Bind) → bind_before a b ≡ true → a.symb ≡ b.symb → a.set ≡ b.set → ⊥
unfolding bind_before set_before
before-other a b q p r = go (less_cases a.symb b.symb (set_before a.set b.set) q)
  where
    go : (a.symb < b.symb) ⊎ ((a.symb ≡ b.symb) × (set_before a.set b.set ≡ true)) → ⊥
    go (inl h) = omega arith
    go (inr h) = list_self (members a.set) (ap (λ (z : Scopes). list_before (members a.set) (members z)) r ∙ h.1)

-- ---- ascending stores

pub all_after : (b : Bind) (l : List Bind) → Ascending b l → (c : Bind) → In c l → bind_before b c ≡ true
all_after b [] a c i = absurd i
all_after b (d ∷ l) a c (inl p) = ap (bind_before b) p ∙ a.0
all_after b (d ∷ l) a c (inr i) = before_trans b d c a.0 (all_after d l a.1 c i)

later_keys : (b : Bind) (l : List Bind) → Ascending b l → Keys (b ∷ l)
later_keys b [] a c d (inl p) (inl q) x y = p ∙ sym q
later_keys b [] a c d (inl p) (inr j) x y = absurd j
later_keys b [] a c d (inr i) j x y = absurd i
later_keys b (z ∷ l) a c d (inl p) (inl q) x y = p ∙ sym q
later_keys b (z ∷ l) a c d (inl p) (inr j) x y =
    absurd (before-other b d (all_after b (z ∷ l) a d j) (ap (λ (w : Bind). w.symb) (sym p) ∙ x) (ap (λ (w : Bind). w.set) (sym p) ∙ y))
later_keys b (z ∷ l) a c d (inr i) (inl q) x y =
    absurd (before-other b c (all_after b (z ∷ l) a c i) (ap (λ (w : Bind). w.symb) (sym q) ∙ sym x) (ap (λ (w : Bind). w.set) (sym q) ∙ sym y))
later_keys b (z ∷ l) a c d (inr i) (inr j) x y = later_keys z l a.1 c d i j x y

pub sorted_keys : (l : List Bind) → Sorted l → Keys l
sorted_keys [] a b c i j p q = absurd i
sorted_keys (b ∷ l) a c d i j p q = later_keys b l a c d i j p q
