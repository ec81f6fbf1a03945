-- Runs of stores, one behind another.
use Prim.Native.Nat.{ℕ, suc, ◌+◌, ◌≤◌, ◌<◌}
use mathlib.Core.Path.{◌≡◌, refl, ap, ◌∙◌}
use mathlib.Core.List.{List, [], ◌∷◌, ◌++◌}
use native.Mathlib.Omega.{arith}
use lib.ListN.{length, set, take}
use lib.Seq.{sets, sets-eq, set_comm, take-append_seam}

-- a run behind a run
pub sets_more : (l : List ℕ) (i : ℕ) (a b : List ℕ) → sets (sets l i a) (i + length a) b ≡ sets l i (a ++ b)
sets_more l i [] b = let e : i + 0 ≡ i = omega arith in ap (λ (k : ℕ). sets l k b) e
sets_more l i (x ∷ a) b = let e : i + suc (length a) ≡ suc i + length a = omega arith in ap (λ (k : ℕ). sets (sets (set l i x) (suc i) a) k b) e ∙ sets_more (set l i x) (suc i) a b

pub run_more : (l : List ℕ) (i : ℕ) (a b : List ℕ) {mid last : List ℕ} {k : ℕ} → k ≡ i + length a → mid ≡ sets l i a → last ≡ sets mid k b → last ≡ sets l i (a ++ b)
run_more l i a b n e d = d ∙ rw (n, e) (sets_more l i a b)

-- a store before a run
pub set_before : (l : List ℕ) (i j v : ℕ) (a : List ℕ) → j < i → set (sets l i a) j v ≡ sets (set l j v) i a
set_before l i j v [] h = refl
set_before l i j v (x ∷ a) h =
    let k : j < suc i = omega arith in
    let d : i ≡ j → ⊥ = λ e. omega arith in
    set_before (set l i x) (suc i) j v a k ∙ ap (λ (z : List ℕ). sets z (suc i) a) (set_comm l i j x v d)

-- a run from the front
pub take-sets : (l a : List ℕ) → length a ≤ length l → take (length a) (sets l 0 a) ≡ a
take-sets l a h = let k : 0 + length a ≤ length l = omega arith in ap (take (length a)) (sets-eq a l 0 k) ∙ take-append_seam a _
