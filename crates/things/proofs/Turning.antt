-- Turning a chain round: what the loop knows, and one law for each of its needs.
use mathlib.Core.Path.{◌≡◌, refl, sym, ap, ◌∙◌}
use mathlib.Core.List.{List}
use Prim.Native.Nat.{ℕ, ◌+◌, ◌*◌, ◌≤◌, ◌<◌}
use native.Mathlib.Omega.{arith}
use lib.ListN.{length}
use Rattle.model.specs.Trees.{Tree, Trees, tnil, tcons}
use Rattle.table.specs.Sizes.{cell_size}
use Rattle.table.specs.Words.{get_cell, Same}
use Rattle.table.specs.declared.Cell.{Cell}
use Rattle.table.proofs.Laws.{same_refl, same_trans}
use Rattle.things.specs.Rep.{RepP, is_none}
use Rattle.things.specs.Making.{Linkable, Linked}
use Rattle.things.specs.Turning.{turn_onto, counts, Turnable, Turned}
use Rattle.things.proofs.Frame.{carry_p}
use Rattle.things.proofs.ByTag.{part_at, none-at}

-- ---- turning twice, with something done to each part in between

pub count-more : (t : Tree) (ts : Trees) → counts (tcons t ts) ≡ counts ts + 1
unfolding counts
count-more t ts = omega arith

pub count_none : counts tnil ≡ 0
unfolding counts
count_none = refl

pub turn_none : (us : Trees) → turn_onto tnil us ≡ us
unfolding turn_onto
turn_none us = refl

pub turn_more : (t : Tree) (ts us : Trees) → turn_onto (tcons t ts) us ≡ turn_onto ts (tcons t us)
unfolding turn_onto
turn_more t ts us = refl

pub count_turned : (ts us : Trees) → counts (turn_onto ts us) ≡ counts ts + counts us
unfolding turn_onto counts
count_turned tnil us = omega arith
count_turned (tcons t ts) us = let e = count_turned ts (tcons t us) in omega arith

-- ---- the loop: `from` is left of the chain c, and `at` is what was turned

pub record Half (l : List ℕ) (top end from at : ℕ) (ts : Trees) : Type 0 where
  pub rest : Trees
  pub done : Trees
  pub shown : RepP l end from rest
  pub turned : RepP l end at done
  pub whole : turn_onto rest done ≡ turn_onto ts tnil
  pub room : end + cell_size * counts rest ≡ top + cell_size * counts ts

pub record Turning (l : List ℕ) (top c : ℕ) (l' : List ℕ) (end from at : ℕ) : Type 0 where
  pub kept : Same top l l'
  pub grows : top ≤ end
  pub long : length l' ≡ length l
  pub means : (ts : Trees) → RepP l top c ts → Half l' top end from at ts

pub turning_start : (l : List ℕ) (top c : ℕ) → Turning l top c l top c 0
turning_start l top c = record {
  kept = same_refl top l;
  grows = omega arith;
  long = refl;
  means = λ ts r. record { rest = ts; done = tnil; shown = r; turned = is_none; whole = refl; room = refl };
}

module _ {l : List ℕ} {top c : ℕ} (r : Turnable l top c) {l1 : List ℕ} {end from at : ℕ} (w : Turning l top c l1 end from at) where
  half : Half l1 top end from at r.thing
  half = w.means r.thing r.shown

  module _ (n : ¬ (from ≡ 0)) where
    pub turning_inside : from + cell_size ≤ length l1
    turning_inside = omega (arith, (part_at half.shown n refl).cell.inside, half.room, r.room, w.long)

    module _ {x : Cell} (e : x ≡ get_cell l1 from) where
      rests : counts half.rest ≡ counts (part_at half.shown n e).others + 1
      rests = let p = part_at half.shown n e in ap counts p.is ∙ count-more p.first p.others

      pub turning_linkable : Linkable l1 end x.head at
      turning_linkable =
          let p = part_at half.shown n e in
          record {
            thing = p.first;
            others = half.done;
            shown = p.cell.shown;
            shown-others = half.turned;
            room = record { fits = omega (arith, rests, half.room, r.room, w.long); small = omega (arith, r.small, w.long); low = omega (arith, r.low, w.grows) };
          }

      pub turning_less : x.tail < from
      turning_less = (part_at half.shown n e).cell.low.1

      pub turning_more : {l2 : List ℕ} {at2 end2 : ℕ} → Linked l1 l2 end x.head at at2 end2 → length l2 ≡ length l1 → Turning l top c l2 end2 x.tail at2
      turning_more {l2} {at2} {end2} k len = record {
        kept = same_trans top end l l1 l2 w.grows w.kept k.kept;
        grows = omega (arith, w.grows, k.grows);
        long = len ∙ w.long;
        means = λ ts u.
            let h = w.means ts u in
            let p = part_at h.shown n e in
            let more : counts h.rest ≡ counts p.others + 1 = ap counts p.is ∙ count-more p.first p.others in
            record {
              rest = p.others;
              done = tcons p.first h.done;
              shown = carry_p p.cell.shown-others k.kept (omega (arith, k.grows));
              turned = k.means p.first h.done p.cell.shown h.turned;
              whole = sym (turn_more p.first p.others h.done) ∙ ap (λ (z : Trees). turn_onto z h.done) (sym p.is) ∙ h.whole;
              room = omega (arith, more, h.room, k.grows);
            };
      }

pub turning_done : {l : List ℕ} {top c : ℕ} {l1 : List ℕ} {end from at : ℕ} → Turning l top c l1 end from at → from ≡ 0 → Turned l l1 top c at end
turning_done {l} {top} {c} {l1} {end} {from} {at} w z = record {
  kept = w.kept;
  grows = w.grows;
  means = λ ts u.
      let h = w.means ts u in
      let none : h.rest ≡ tnil = none-at h.shown z in
      let few : counts h.rest ≡ 0 = ap counts none ∙ count_none in
      let same : h.done ≡ turn_onto ts tnil = sym (turn_none h.done) ∙ ap (λ (y : Trees). turn_onto y h.done) (sym none) ∙ h.whole in
      (rw same at h.turned, omega (arith, few, h.room));
}

pub ruleset laws = (turning_start, turning_inside, turning_linkable, turning_less, turning_more, turning_done)
