-- New numbers of scopes, by the steps that the code takes.
use Prim.Native.Nat.{ℕ, zero, suc, ◌+◌, ◌-◌, ◌≤◌, ◌<◌}
use mathlib.Core.Path.{◌≡◌, refl, sym, ap, ◌∙◌}
use mathlib.Core.Bool.{Bool, true, false}
use mathlib.Core.List.{List, [], ◌∷◌}
use native.Mathlib.Omega.{arith}
use lib.Dec.{eqb}
use lib.ListN.{length, get_or, set, length-set}
use lib.Seq.{get_or-set_same, get_or-set_other}
use borrow.Author.Tests.{le-leb, lt-leb, eqb-true, eqb-false}
use Rattle.model.specs.Scopes.{Scopes, has, members}
use Rattle.shrinking.specs.Shrunk.{rank_in, rank}
use Rattle.scopes.specs.declared.Scope as code
use Rattle.scopes.specs.Sets.{Declared}
use Rattle.sets.proofs.Writing.{above, above_all, above_none, above_there, above_absent}
use Rattle.ranking.specs.Ranks.{Ranked}

-- ---- a scope's rank, and the scopes above it, are all that remain

rank-more : (j k : ℕ) (l : List ℕ) → j ≤ k → rank_in (j ∷ l) k ≡ suc (rank_in l k)
unfolding rank_in
rank-more j k l h = rw (le-leb j k h)

rank_past : (j k : ℕ) (l : List ℕ) → k < j → rank_in (j ∷ l) k ≡ rank_in l k
unfolding rank_in
rank_past j k l h = rw (lt-leb j k h)

rank-none : (k : ℕ) → rank_in [] k ≡ 0
unfolding rank_in
rank-none k = refl

rank-low : (d i : ℕ) (u : Scopes) (k : ℕ) → i + d ≡ 256 → k ≤ i → rank_in (above i u) k ≡ 0
rank-low zero i u k e l = ap (λ (s : List ℕ). rank_in s k) (above_none i u (omega arith)) ∙ rank-none k
rank-low (suc d) i u k e l = go (rank-low d (i + 1) u k (omega arith) (omega arith)) (has (i + 1) u) refl
  where
    small : i < 256
    small = omega arith

    go : rank_in (above (i + 1) u) k ≡ 0 → (t : Bool) → has (i + 1) u ≡ t → rank_in (above i u) k ≡ 0
    go rest true q = ap (λ (s : List ℕ). rank_in s k) (above_there i u small refl q) ∙ rank_past (i + 1) k (above (i + 1) u) (omega arith) ∙ rest
    go rest false q = ap (λ (s : List ℕ). rank_in s k) (above_absent i u small refl q) ∙ rest

rank-from : (d i : ℕ) (u : Scopes) (k : ℕ) → i + d ≡ k → k ≤ 256 → rank_in (above i u) k + length (above k u) ≡ length (above i u)
rank-from zero i u k e l =
    let a = rank-low (256 - i) i u k (omega arith) (omega arith) in
    let b : length (above i u) ≡ length (above k u) = ap (λ (j : ℕ). length (above j u)) (let z : i ≡ k = omega arith in z) in
    omega arith
rank-from (suc d) i u k e l = go (rank-from d (i + 1) u k (omega arith) l) (has (i + 1) u) refl
  where
    small : i < 256
    small = omega arith

    go : rank_in (above (i + 1) u) k + length (above k u) ≡ length (above (i + 1) u) → (t : Bool) → has (i + 1) u ≡ t → rank_in (above i u) k + length (above k u) ≡ length (above i u)
    go rest true q =
        let s = above_there i u small refl q in
        let a = ap (λ (z : List ℕ). rank_in z k) s ∙ rank-more (i + 1) k (above (i + 1) u) (omega arith) in
        let b = ap length s in
        omega arith
    go rest false q =
        let s = above_absent i u small refl q in
        let a = ap (λ (z : List ℕ). rank_in z k) s in
        let b = ap length s in
        omega arith

rank-all : (u : Scopes) (k : ℕ) → k ≤ 256 → rank u k + length (above k u) ≡ length (members u)
unfolding rank
rank-all u k l =
    let a = rank-from k 0 u k (omega arith) l in
    let b = ap (λ (z : List ℕ). rank_in z k) (above_all u) in
    let c = ap length (above_all u) in
    omega arith

rank-zero : (u : Scopes) → rank u 0 ≡ 0
rank-zero u = let a = rank-all u 0 (omega arith) in let b = ap length (above_all u) in omega arith

module _ (u : Scopes) (k : ℕ) (h : k < 256) {b : Bool} (e : b ≡ has (k + 1) u) where
  rank-there : b ≡ true → rank u (k + 1) ≡ rank u k + 1
  rank-there t = let a = rank-all u k (omega arith) in let c = rank-all u (k + 1) (omega arith) in let s = ap length (above_there k u h e t) in omega arith

  rank_absent : b ≡ false → rank u (k + 1) ≡ rank u k
  rank_absent t = let a = rank-all u k (omega arith) in let c = rank-all u (k + 1) (omega arith) in let s = ap length (above_absent k u h e t) in omega arith

-- ---- all of them

-- those below k are there, and n is that of the scope before k
pub record Filling (u : Scopes) (ranks₀ ranks : List ℕ) (n k : ℕ) : Type 0 where
  pub same : length ranks ≡ length ranks₀
  pub long : 256 < length ranks
  pub from_one : 1 ≤ k
  pub most : k ≤ 257
  pub few : n < k
  pub is : n ≡ rank u (k - 1)
  pub are : (j : ℕ) → j < k → get_or ranks j 0 ≡ rank u j

pub filling_start : (u : Scopes) (ranks : List ℕ) → 256 < length ranks → Filling u (set ranks 0 0) (set ranks 0 0) 0 1
filling_start u ranks h = record {
  same = refl;
  long = let l = length-set ranks 0 0 in omega arith;
  from_one = omega arith;
  most = omega arith;
  few = omega arith;
  is = sym (rank-zero u);
  are = λ j l. ap (λ (i : ℕ). get_or (set ranks 0 0) i 0) (let z : j ≡ 0 = omega arith in z) ∙ get_or-set_same ranks 0 0 0 (omega arith) ∙ sym (ap (rank u) (let z : j ≡ 0 = omega arith in z) ∙ rank-zero u);
}

module _ {u : Scopes} {ranks₀ ranks : List ℕ} {n k : ℕ} (f : Filling u ranks₀ ranks n k) where
  pub filling_end : 256 < k → Ranked u ranks
  filling_end h = record { long = f.long; are = λ j l. f.are j (omega arith) }

  module _ (h : k ≤ 256) where
    pub filling_declared : {j : code.Scope} → j.0 ≡ k → Declared j
    filling_declared e = let a = f.from_one in record { from_one = omega arith; most = omega arith }

    back : k - 1 + 1 ≡ k
    back = let a = f.from_one in omega arith

    -- the scope k has the number r
    onward : (r : ℕ) → r ≡ rank u k → r ≤ k → Filling u ranks₀ (set ranks k r) r (k + 1)
    onward r e m = record {
      same = length-set ranks k r ∙ f.same;
      long = let l = f.long in let s = length-set ranks k r in omega arith;
      from_one = omega arith;
      most = omega arith;
      few = omega arith;
      is = e ∙ ap (rank u) (let z : k ≡ k + 1 - 1 = omega arith in z);
      are = λ j l. go j l (eqb j k) refl;
    }
      where
        go : (j : ℕ) → j < k + 1 → (t : Bool) → eqb j k ≡ t → get_or (set ranks k r) j 0 ≡ rank u j
        go j l true q =
            let z = eqb-true j k q in
            ap (λ (i : ℕ). get_or (set ranks k r) i 0) z ∙ get_or-set_same ranks k r 0 (let a = f.long in omega arith) ∙ e ∙ ap (rank u) (sym z)
        go j l false q =
            let z = eqb-false j k q in
            get_or-set_other ranks k j r 0 z ∙ f.are j (omega arith)

    module _ {b : Bool} (e : b ≡ has k u) where
      here : b ≡ has (k - 1 + 1) u
      here = e ∙ ap (λ (j : ℕ). has j u) (sym back)

      pub filling_there : b ≡ true → Filling u ranks₀ (set ranks k (n + 1)) (n + 1) (k + 1)
      filling_there t =
          let a = rank-there u (k - 1) (let o = f.from_one in omega arith) here t in
          let c = ap (rank u) back in
          let d = f.is in
          let g = f.few in
          onward (n + 1) (omega arith) (omega arith)

      pub filling_absent : b ≡ false → Filling u ranks₀ (set ranks k n) n (k + 1)
      filling_absent t =
          let a = rank_absent u (k - 1) (let o = f.from_one in omega arith) here t in
          let c = ap (rank u) back in
          let d = f.is in
          let g = f.few in
          onward n (omega arith) (omega arith)

pub ruleset fill_laws = (filling_start, filling_end, filling_declared, filling_there, filling_absent)
