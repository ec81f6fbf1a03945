-- The marked bindings written one after another, by the steps that the code takes.
use Prim.Native.Nat.{ℕ, suc, ◌+◌, ◌-◌, ◌≤◌, ◌<◌}
use mathlib.Core.Path.{◌≡◌, refl, sym, ap, ◌∙◌, subst}
use mathlib.Core.List.{List, [], ◌∷◌, ◌++◌}
use native.Mathlib.Omega.{arith}
use native.Mathlib.Numerals.{add-one}
use lib.ListN.{length, get_or, length-append}
use Rattle.model.specs.Scopes.{Scopes}
use Rattle.model.specs.Resolving.{Bind}
use Rattle.store.specs.Words.{bind_at, binds_from, binds_of}
use Rattle.marking.specs.Kept.{kept_from, kept_of}
use Rattle.marking.proofs.KeptLaws.{kept_behind, kept-none, kept_there, kept_absent}
use Rattle.text.specs.Placing.{Placed}
use Rattle.text.proofs.Placing.{Placing, begun, ended, placing_more}
use Rattle.ranking.specs.Numbered.{bind_by, binds_by, RoomFor, KeptRoom}

by-more : (ranks : List ℕ) (b : Bind) (l : List Bind) → binds_by ranks (b ∷ l) ≡ bind_by ranks b ++ binds_by ranks l
unfolding binds_by
by-more ranks b l = refl

by-none : (ranks : List ℕ) → binds_by ranks [] ≡ []
unfolding binds_by
by-none ranks = refl

kept-all : (store marks : List ℕ) → kept_behind store marks 0 ≡ kept_of marks store
unfolding binds_of
kept-all store marks = ap (λ (n : ℕ). kept_from marks 0 (binds_from store 0 n)) (let z : length marks - 0 ≡ length marks = omega arith in z)

-- those from place i on are still to be written
pub record Keeping (out₀ : List ℕ) (at : ℕ) (ranks store marks out : List ℕ) (here i : ℕ) : Type 0 where
  pub room : KeptRoom out₀ at ranks store marks
  pub inside : i ≤ length marks
  pub placing : Placing out₀ at (binds_by ranks (kept_of marks store)) out here (binds_by ranks (kept_behind store marks i))

pub keeping_start : {out : List ℕ} {at : ℕ} {ranks store marks : List ℕ} → KeptRoom out at ranks store marks → Keeping out at ranks store marks out at 0
keeping_start {out} {at} {ranks} {store} {marks} r = record {
  room = r;
  inside = omega arith;
  placing = subst (λ (l : List Bind). Placing out at (binds_by ranks (kept_of marks store)) out at (binds_by ranks l)) (sym (kept-all store marks)) begun;
}

module _ {out₀ : List ℕ} {at : ℕ} {ranks store marks out : List ℕ} {here i : ℕ} (k : Keeping out₀ at ranks store marks out here i) where
  pub keeping-end : length marks ≤ i → Placed out₀ at (binds_by ranks (kept_of marks store)) out here
  keeping-end h =
      let n = k.inside in
      let z : i ≡ length marks = omega arith in
      ended (subst (Placing out₀ at (binds_by ranks (kept_of marks store)) out here) (ap (binds_by ranks) (kept-none store marks i z) ∙ by-none ranks) k.placing)

  module _ (h : i < length marks) where
    pub keeping_absent : get_or marks i 0 ≡ 0 → Keeping out₀ at ranks store marks out here (i + 1)
    keeping_absent e = record {
      room = k.room;
      inside = omega arith;
      placing = subst (λ (l : List Bind). Placing out₀ at (binds_by ranks (kept_of marks store)) out here (binds_by ranks l)) (kept_absent store marks i h e ∙ ap (kept_behind store marks) (sym (add-one i))) k.placing;
    }

    module _ (n : get_or marks i 0 ≡ 0 → ⊥) (x y : ℕ) (m : Scopes) (e : record { symb = x; target = y; set = m } ≡ bind_at store i) where
      abbrev binding : Bind
      binding = record { symb = x; target = y; set = m }

      next : binds_by ranks (kept_behind store marks i) ≡ bind_by ranks binding ++ binds_by ranks (kept_behind store marks (i + 1))
      next =
          ap (binds_by ranks) (kept_there store marks i h n) ∙ by-more ranks (bind_at store i) (kept_behind store marks (suc i))
          ∙ (λ j. bind_by ranks (sym e j) ++ binds_by ranks (kept_behind store marks (sym (add-one i) j)))

      pub keeping-room : RoomFor out here ranks (bind_by ranks (record { symb = x; target = y; set = m }))
      keeping-room =
          let a = ap length next in
          let b = length-append (bind_by ranks binding) (binds_by ranks (kept_behind store marks (i + 1))) in
          let c = k.placing.ends in
          let d = k.placing.same in
          let r = k.room.room.room in
          record { numbers = k.room.room.numbers; room = omega arith }

      pub keeping-there : {out' : List ℕ} {here' : ℕ} → Placed out here (bind_by ranks (record { symb = x; target = y; set = m })) out' here' → Keeping out₀ at ranks store marks out' here' (i + 1)
      keeping-there w = record {
        room = k.room;
        inside = omega arith;
        placing = placing_more {xs = bind_by ranks binding} (subst (Placing out₀ at (binds_by ranks (kept_of marks store)) out here) next k.placing) w;
      }

pub ruleset kept_laws = (keeping_start, keeping-end, keeping_absent, keeping-room, keeping-there)
