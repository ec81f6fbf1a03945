-- The members of a set written with new numbers, by the steps that the code takes.
use Prim.Native.Nat.{ℕ, ◌+◌, ◌-◌, ◌≤◌, ◌<◌}
use mathlib.Core.Path.{◌≡◌, refl, sym, ap, ◌∙◌, subst}
use mathlib.Core.Bool.{Bool, true, false}
use mathlib.Core.List.{List, [], ◌∷◌, ◌++◌}
use native.Mathlib.Omega.{arith}
use lib.Dec.{ltb}
use lib.ListN.{length, get_or, length-append}
use lib.Seq.{sets}
use mir.Syntax.{w32}
use mir.Val.{Fits}
use borrow.Author.Tests.{ltb-true, ltb-false}
use Rattle.model.specs.Scopes.{Scopes, has, members}
use Rattle.model.specs.Writing.{num_bytes, nums_bytes}
use Rattle.alike.specs.Renumbering.{mapped}
use Rattle.scopes.specs.declared.Scope.{Scope}
use Rattle.scopes.specs.Sets.{Declared}
use Rattle.sets.proofs.Writing.{above, above_all, above_none, above_there, above_absent, no-members}
use Rattle.text.specs.Placing.{Placed}
use Rattle.text.proofs.Placing.{Placing, begun, ended, placing_more}
use Rattle.ranking.specs.Numbered.{numbered, members_by, MembersRoom}

-- those above k
abbrev above_by : List ℕ → ℕ → Scopes → List ℕ
above_by ranks k m = nums_bytes (mapped (numbered ranks) (above k m))

by-more : (ranks : List ℕ) (j : ℕ) (l : List ℕ) → nums_bytes (mapped (numbered ranks) (j ∷ l)) ≡ num_bytes (get_or ranks j 0) ++ nums_bytes (mapped (numbered ranks) l)
unfolding nums_bytes mapped
by-more ranks j l = refl

by-none : (ranks : List ℕ) → nums_bytes (mapped (numbered ranks) []) ≡ []
unfolding nums_bytes mapped
by-none ranks = refl

-- the members above k are still to be written, `left` of them
pub record Putting (out₀ : List ℕ) (at : ℕ) (ranks : List ℕ) (m : Scopes) (out : List ℕ) (here left k : ℕ) : Type 0 where
  pub numbers : 256 < length ranks
  pub most : k ≤ 256
  pub some : left ≡ length (above k m)
  pub room : at + length (members_by ranks m) ≤ length out₀
  pub placing : Placing out₀ at (members_by ranks m) out here (above_by ranks k m)

pub putting_start : {out : List ℕ} {at : ℕ} {ranks : List ℕ} {m : Scopes} {count : ℕ} → MembersRoom out at ranks m count → Putting out at ranks m out at count 0
unfolding members_by
putting_start {out} {at} {ranks} {m} r = record {
  numbers = r.numbers;
  most = omega arith;
  some = r.all ∙ ap length (sym (above_all m));
  room = r.room;
  placing = subst (λ (l : List ℕ). Placing out at (nums_bytes (mapped (numbered ranks) (members m))) out at (nums_bytes (mapped (numbered ranks) l))) (sym (above_all m)) begun;
}

module _ {out₀ : List ℕ} {at : ℕ} {ranks : List ℕ} {m : Scopes} {out : List ℕ} {here left k : ℕ} (p : Putting out₀ at ranks m out here left k) where
  pub putting_same : length out ≡ length out₀
  putting_same = p.placing.same

  pub putting_end : left ≤ 0 → Placed out₀ at (members_by ranks m) out here
  putting_end h =
      let z : above k m ≡ [] = no-members (above k m) (omega (arith, p.some)) in
      ended (subst (Placing out₀ at (members_by ranks m) out here) (ap (λ (l : List ℕ). nums_bytes (mapped (numbered ranks) l)) z ∙ by-none ranks) p.placing)

  module _ (h : 0 < left) where
    low : k < 256
    low = go (ltb k 256) refl
      where
        go : (t : Bool) → ltb k 256 ≡ t → k < 256
        go true e = ltb-true k 256 e
        go false e = let a = ap length (above_none k m (ltb-false k 256 e)) in omega (arith, p.some)

    pub putting_declared : {j : Scope} → j.0 ≡ k + 1 → Declared j
    putting_declared e = let n = low in record { from_one = omega arith; most = omega arith }

    pub putting_less : 256 - (k + 1) < 256 - k
    putting_less = let n = low in omega arith

    pub putting_fits : Fits w32 (k + 1)
    putting_fits = let n = low in omega arith

    pub putting_number : k + 1 < length ranks
    putting_number = let n = low in let l = p.numbers in omega arith

    module _ {b : Bool} (e : b ≡ has (k + 1) m) where
      pub putting_absent : b ≡ false → Putting out₀ at ranks m out here left (k + 1)
      putting_absent t =
          let n = low in
          let a = above_absent k m n e t in
          record {
            numbers = p.numbers;
            most = omega arith;
            some = p.some ∙ ap length a;
            room = p.room;
            placing = subst (λ (l : List ℕ). Placing out₀ at (members_by ranks m) out here (nums_bytes (mapped (numbered ranks) l))) a p.placing;
          }

      module _ (t : b ≡ true) where
        next : above_by ranks k m ≡ num_bytes (get_or ranks (k + 1) 0) ++ above_by ranks (k + 1) m
        next = ap (λ (l : List ℕ). nums_bytes (mapped (numbered ranks) l)) (above_there k m low e t) ∙ by-more ranks (k + 1) (above (k + 1) m)

        pub putting_room : here + length (num_bytes (get_or ranks (k + 1) 0)) ≤ length out
        putting_room =
            let a = ap length next in
            let c = length-append (num_bytes (get_or ranks (k + 1) 0)) (above_by ranks (k + 1) m) in
            let r = p.room in
            let s = p.placing.same in
            let d = p.placing.ends in
            omega arith

        pub putting_there : {out' : List ℕ} {here' : ℕ} → here' ≡ here + length (num_bytes (get_or ranks (k + 1) 0)) → out' ≡ sets out here (num_bytes (get_or ranks (k + 1) 0))
            → Putting out₀ at ranks m out' here' (left - 1) (k + 1)
        putting_there {out'} {here'} i o =
            let n = low in
            let a = ap length (above_there k m n e t) in
            record {
              numbers = p.numbers;
              most = omega arith;
              some = omega (arith, p.some);
              room = p.room;
              placing = placing_more {xs = num_bytes (get_or ranks (k + 1) 0)} (subst (Placing out₀ at (members_by ranks m) out here) next p.placing) (record { ends = i; is = o });
            }

pub ruleset member_laws = (putting_start, putting_same, putting_end, putting_declared, putting_less, putting_fits, putting_number, putting_absent, putting_room, putting_there)
