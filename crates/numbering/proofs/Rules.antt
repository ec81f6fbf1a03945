-- A one-to-one rule on 1 to n, with all past n left as it is, gives new numbers to all scopes, no two the same.
use mathlib.Core.Path.{◌≡◌, refl, sym, ◌∙◌, subst}
use Prim.Native.Nat.{ℕ, ◌≤◌, ◌<◌}
use native.Mathlib.Nat.{le_trans}
use mathlib.Core.Bool.{Bool, true, false, ◌&&◌, true≢false}
use lib.Dec.{leb}
use Rattle.model.specs.Choice.{when◌then◌else◌}
use borrow.Author.Tests.{le-leb, leb-true, lt-leb}
use Rattle.laws.proofs.Tests.{and_both, both_true}
use Rattle.alike.proofs.Alike.{NewNumbers}
use Rattle.numbering.specs.Renumbered.{NumberingRule, extended}
use Rattle.numbering.proofs.States.{Renumbering}

module _ (n : ℕ) (f : ℕ → ℕ) where
  inside : ℕ → Bool
  inside k = leb 1 k && leb k n

  extended-by : (k : ℕ) (b : Bool) → inside k ≡ b → extended n f k ≡ (when b then f k else k)
  unfolding extended inside
  extended-by k b e = rw e

  inside_is : (k : ℕ) → inside k ≡ true → (1 ≤ k) × (k ≤ n)
  unfolding inside
  inside_is k e = let g = and_both (leb 1 k) (leb k n) e in (leb-true 1 k g.0, leb-true k n g.1)

  is-inside : (k : ℕ) → 1 ≤ k → k ≤ n → inside k ≡ true
  unfolding inside
  is-inside k h i = both_true (leb 1 k) (leb k n) (le-leb 1 k h) (le-leb k n i)

  pub extended-zero : extended n f 0 ≡ 0
  unfolding extended
  extended-zero = refl

  past_inside : (k : ℕ) → n < k → inside k ≡ false
  unfolding inside
  past_inside k h = go (leb 1 k) (leb k n) (lt-leb k n h)
    where
      go : (x y : Bool) → y ≡ false → (x && y) ≡ false
      go true y e = e
      go false y e = refl

  pub extended_past : (k : ℕ) → n < k → extended n f k ≡ k
  extended_past k h = extended-by k false (past_inside k h)

  module _ (r : NumberingRule n f) where
    -- the rule stays within 1 to n
    stays : (j k : ℕ) → 1 ≤ j → j ≤ n → f j ≡ k → inside k ≡ true
    stays j k a b e = is-inside k (subst (λ (z : ℕ). 1 ≤ z) e (r.from_one j a b)) (subst (λ (z : ℕ). z ≤ n) e (r.up_to_lem j a b))

    pub extended-one : (j k : ℕ) → extended n f j ≡ extended n f k → j ≡ k
    extended-one j k e = go (inside j) refl (inside k) refl
      where
        go : (x : Bool) → inside j ≡ x → (y : Bool) → inside k ≡ y → j ≡ k
        go true p true q =
            let a = inside_is j p in
            let b = inside_is k q in
            r.one_to_one j k a.0 a.1 b.0 b.1 (sym (extended-by j true p) ∙ e ∙ extended-by k true q)
        go true p false q =
            let a = inside_is j p in
            absurd (true≢false (sym (stays j k a.0 a.1 (sym (extended-by j true p) ∙ e ∙ extended-by k false q)) ∙ q))
        go false p true q =
            let a = inside_is k q in
            absurd (true≢false (sym (stays k j a.0 a.1 (sym (extended-by k true q) ∙ sym e ∙ extended-by j false p)) ∙ p))
        go false p false q = sym (extended-by j false p) ∙ e ∙ extended-by k false q

    pub extended_up : (m : ℕ) → n ≤ m → (k : ℕ) → 1 ≤ k → k ≤ m → extended n f k ≤ m
    extended_up m h k i j = go (inside k) refl
      where
        go : (x : Bool) → inside k ≡ x → extended n f k ≤ m
        go true p = let a = inside_is k p in subst (λ (z : ℕ). z ≤ m) (sym (extended-by k true p)) (le_trans (r.up_to_lem k a.0 a.1) h)
        go false p = subst (λ (z : ℕ). z ≤ m) (sym (extended-by k false p)) j

    abbrev pub rule_map : NewNumbers
    rule_map = record { to = extended n f; one_to_one = extended-one }

    abbrev pub ruled : Renumbering
    ruled = record { map = rule_map; up_to = n; fixed = extended_past }
