-- Substituting into a chain: what the loop knows, and one law for each of its needs.
use mathlib.Core.Path.{◌≡◌, refl, sym, ap, ◌∙◌}
use mathlib.Core.List.{List}
use Prim.Native.Nat.{ℕ, ◌+◌, ◌*◌, ◌≤◌, ◌<◌}
use native.Mathlib.Omega.{arith}
use lib.ListN.{length}
use Rattle.model.specs.Trees.{Tree, Trees, tnil, tcons, tsize, substitute, substitute_all}
use Rattle.table.specs.Sizes.{cell_size, turned_size}
use Rattle.table.specs.Words.{get_cell, Same}
use Rattle.table.specs.declared.Cell.{Cell}
use Rattle.table.proofs.Laws.{same_refl, same_trans}
use Rattle.things.specs.Weights.{tsizes}
use Rattle.things.specs.Rep.{Rep, RepP, is_none}
use Rattle.things.specs.Making.{Linkable, Linked}
use Rattle.things.specs.Turning.{turn_onto, counts, Turnable, Turned}
use Rattle.things.proofs.Weighing.{size-cons, size_none}
use Rattle.things.proofs.Frame.{carry, carry_p}
use Rattle.things.proofs.ByTag.{part_at, none-at}
use Rattle.things.proofs.Turning.{count-more, turn_more}
use Rattle.substitution.specs.Substituting.{ReadyToSubstitute, ReadyP, Substituted, SubstitutedP}

-- `from` is left of the chain of ts, and `at` is what the parts before it became, the last first
pub record Half (l : List ℕ) (top end from at x : ℕ) (w : Tree) (ts : Trees) : Type 0 where
  pub rest : Trees
  pub done : Trees
  pub shown : RepP l end from rest
  pub made : RepP l end at done
  pub whole : turn_onto done (substitute_all x w rest) ≡ substitute_all x w ts
  pub room : end + turned_size * tsizes rest + cell_size * counts done ≤ top + turned_size * tsizes ts

pub record Going (l : List ℕ) (top c x v : ℕ) (l' : List ℕ) (end from at : ℕ) : Type 0 where
  pub kept : Same top l l'
  pub grows : top ≤ end
  pub long : length l' ≡ length l
  pub lower : from ≤ c
  pub means : (ts : Trees) (w : Tree) → RepP l top c ts → Rep l top v w → Half l' top end from at x w ts

pub going_start : (l : List ℕ) (top c x v : ℕ) → Going l top c x v l top c 0
unfolding turn_onto counts
going_start l top c x v = record {
  kept = same_refl top l;
  grows = omega arith;
  long = refl;
  lower = omega arith;
  means = λ ts w r g. record { rest = ts; done = tnil; shown = r; made = is_none; whole = refl; room = omega arith };
}

module _ {l : List ℕ} {top c v : ℕ} (r : ReadyP l top c v) {x : ℕ} {l1 : List ℕ} {end from at : ℕ} (g : Going l top c x v l1 end from at) where
  half : Half l1 top end from at x r.value r.thing
  half = g.means r.thing r.value r.shown r.given

  module _ (n : ¬ (from ≡ 0)) where
    pub going_inside : from + cell_size ≤ length l1
    going_inside = omega (arith, (part_at half.shown n refl).cell.inside, half.room, r.room, g.long)

    module _ {cell : Cell} (e : cell ≡ get_cell l1 from) where
      sizes : tsizes half.rest ≡ tsize (part_at half.shown n e).first + tsizes (part_at half.shown n e).others
      sizes = let p = part_at half.shown n e in ap tsizes p.is ∙ size-cons p.first p.others

      pub going_ready : ReadyToSubstitute l1 end cell.head v
      going_ready =
          let p = part_at half.shown n e in
          record {
            thing = p.first;
            value = r.value;
            shown = p.cell.shown;
            given = carry r.given g.kept g.grows;
            room = omega (arith, sizes, half.room, r.room, g.long);
            inside = omega (arith, half.room, r.room, g.long);
            small = omega (arith, r.small, g.long);
            low = omega (arith, r.low, g.grows);
          }

      pub going_head_less : {T : ℕ} → c * 2 ≡ T → cell.head * 2 + 2 < T
      going_head_less k = omega (arith, (part_at half.shown n e).cell.low, g.lower)

      pub going_less : cell.tail < from
      going_less = (part_at half.shown n e).cell.low.1

      module _ {at2 top2 : ℕ} {l2 : List ℕ} (p : Substituted l1 l2 end cell.head x v at2 top2) (len : length l2 ≡ length l1) where
        pub going_linkable : Linkable l2 top2 at2 at
        going_linkable =
            let w = part_at half.shown n e in
            let d = p.means w.first r.value w.cell.shown (carry r.given g.kept g.grows) in
            record {
              thing = substitute x r.value w.first;
              others = half.done;
              shown = d.0;
              shown-others = carry_p half.made p.kept p.grows;
              room = record { fits = omega (arith, sizes, half.room, r.room, d.1, g.long); small = omega (arith, r.small, g.long); low = omega (arith, r.low, g.grows, p.grows) };
            }

        pub going_more : {l3 : List ℕ} {at3 top3 : ℕ} → Linked l2 l3 top2 at2 at at3 top3 → length l3 ≡ length l2 → Going l top c x v l3 top3 cell.tail at3
        unfolding substitute_all
        going_more {l3} {at3} {top3} k len3 = record {
          kept = same_trans top end l l1 l3 g.grows g.kept (same_trans end top2 l1 l2 l3 p.grows p.kept k.kept);
          grows = omega (arith, g.grows, p.grows, k.grows);
          long = len3 ∙ len ∙ g.long;
          lower = omega (arith, going_less, g.lower);
          means = λ ts w u b.
              let h = g.means ts w u b in
              let y = part_at h.shown n e in
              let d = p.means y.first w y.cell.shown (carry b g.kept g.grows) in
              let big : tsizes h.rest ≡ tsize y.first + tsizes y.others = ap tsizes y.is ∙ size-cons y.first y.others in
              let more = count-more (substitute x w y.first) h.done in
              record {
                rest = y.others;
                done = tcons (substitute x w y.first) h.done;
                shown = carry_p (carry_p y.cell.shown-others p.kept p.grows) k.kept (omega (arith, k.grows));
                made = k.means (substitute x w y.first) h.done d.0 (carry_p h.made p.kept p.grows);
                whole = turn_more (substitute x w y.first) h.done (substitute_all x w y.others) ∙ ap (λ (z : Trees). turn_onto h.done (substitute_all x w z)) (sym y.is) ∙ h.whole;
                room = omega (arith, big, more, h.room, d.1, k.grows);
              };
        }

  pub going_turnable : from ≡ 0 → Turnable l1 end at
  going_turnable z =
      let none : tsizes half.rest ≡ 0 = ap tsizes (none-at half.shown z) ∙ size_none in
      record { thing = half.done; shown = half.made; room = omega (arith, none, half.room, r.room, g.long); small = omega (arith, r.small, g.long); low = omega (arith, r.low, g.grows) }

pub going_done : {l : List ℕ} {top c x v : ℕ} {l1 : List ℕ} {end from at : ℕ} → Going l top c x v l1 end from at → from ≡ 0
    → {l2 : List ℕ} {at2 top2 : ℕ} → Turned l1 l2 end at at2 top2 → SubstitutedP l l2 top c x v at2 top2
unfolding substitute_all
going_done {l} {top} {c} {x} {v} {l1} {end} {from} {at} g z {l2} {at2} {top2} t = record {
  kept = same_trans top end l l1 l2 g.grows g.kept t.kept;
  grows = omega (arith, g.grows, t.grows);
  means = λ ts w u b.
      let h = g.means ts w u b in
      let d = t.means h.done h.made in
      let none : h.rest ≡ tnil = none-at h.shown z in
      let few : tsizes h.rest ≡ 0 = ap tsizes none ∙ size_none in
      let same : turn_onto h.done tnil ≡ substitute_all x w ts = ap (λ (y : Trees). turn_onto h.done (substitute_all x w y)) (sym none) ∙ h.whole in
      (rw same at d.0, omega (arith, few, h.room, d.1));
}

pub ruleset parts_laws = (going_start, going_inside, going_ready, going_head_less, going_less, going_linkable, going_more, going_turnable, going_done)
