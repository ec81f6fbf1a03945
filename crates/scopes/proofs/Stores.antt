-- A run of stores in a list of words: what it leaves before it, what it puts, and what it leaves after it.
use mathlib.Core.Path.{◌≡◌, refl, sym, ap, ◌∙◌}
use mathlib.Core.List.{List, [], ◌∷◌}
use Prim.Native.Nat.{ℕ, zero, suc, ◌+◌, ◌≤◌, ◌<◌}
use native.Mathlib.Nat.{add-zero}
use native.Mathlib.Omega.{arith}
use lib.ListN.{length, get_or, set, length-set}
use lib.Seq.{sets, get_or-set_same, get_or-set_other}

pub stores_before : (vs l : List ℕ) (i k : ℕ) → k < i → get_or (sets l i vs) k 0 ≡ get_or l k 0
stores_before [] l i k h = refl
stores_before (v ∷ vs) l i k h = stores_before vs (set l i v) (suc i) k (omega arith) ∙ get_or-set_other l i k v 0 (omega arith)

pub stores_after : (vs l : List ℕ) (i k : ℕ) → i + length vs ≤ k → get_or (sets l i vs) k 0 ≡ get_or l k 0
stores_after [] l i k h = refl
stores_after (v ∷ vs) l i k h = stores_after vs (set l i v) (suc i) k (omega arith) ∙ get_or-set_other l i k v 0 (λ e. omega arith)

pub stores_at : (vs l : List ℕ) (i k : ℕ) → i + length vs ≤ length l → k < length vs → get_or (sets l i vs) (i + k) 0 ≡ get_or vs k 0
stores_at [] l i k h lt = absurd (omega arith)
stores_at (v ∷ vs) l i zero h lt = rw (add-zero i, stores_before vs (set l i v) (suc i) i (omega arith)) (get_or-set_same l i v 0 (omega arith))
stores_at (v ∷ vs) l i (suc k) h lt =
    let e : i + suc k ≡ suc i + k = omega arith in
    let h' : suc i + length vs ≤ length (set l i v) = rw length-set (omega arith) in
    ap (λ (n : ℕ). get_or (sets (set l i v) (suc i) vs) n 0) e ∙ stores_at vs (set l i v) (suc i) k h' (omega arith)

pub stores_first : (v : ℕ) (vs l : List ℕ) (i : ℕ) → i + length (v ∷ vs) ≤ length l → get_or (sets l i (v ∷ vs)) i 0 ≡ v
stores_first v vs l i h = ap (λ (n : ℕ). get_or (sets l i (v ∷ vs)) n 0) (sym (add-zero i)) ∙ stores_at (v ∷ vs) l i 0 h (omega arith)
