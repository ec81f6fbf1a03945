-- Expanding the parts of a chain in turn: what the loop knows, and one law for each of its needs.
use Rattle.std.specs.Prelude.{Result, Ok, Err}
use mathlib.Core.Path.{◌≡◌, refl, sym, ap, ◌∙◌}
use mathlib.Core.List.{List}
use Prim.Native.Nat.{ℕ, ◌+◌, ◌*◌, ◌≤◌, ◌<◌}
use native.Mathlib.Omega.{arith}
use lib.ListN.{length}
use Rattle.model.specs.Objects.{Stx, Stxs, nil, cons}
use Rattle.model.specs.Trees.{stx, from_stxs}
use Rattle.model.specs.Steps as m
use Rattle.model.specs.Steps.{ok, after, inside}
use Rattle.model.specs.Expanding.{expand_all, expand}
use Rattle.model.specs.Scopes.{Scopes}
use Rattle.store.specs.Sizes.{most_bindings, held_size}
use Rattle.store.specs.Words.{prunable_of}
use Rattle.steps.specs.States.{store_of, state_of, raised_to, end}
use Rattle.steps.specs.Agreement.{Later, Gave, Agrees, gives, stops}
use Rattle.steps.specs.declared.State.{State}
use Rattle.steps.specs.declared.Stop.{Stop}
use Rattle.steps.specs.declared.Out.{Out}
use Rattle.steps.proofs.Laws.{then_ok, then_no, after-after, after-done, on_done, on_refused}
use Rattle.table.specs.Sizes.{cell_size, two_cells}
use Rattle.table.specs.Words.{get_cell, Same}
use Rattle.table.specs.declared.Cell.{Cell}
use Rattle.table.proofs.Laws.{same_refl, same_trans}
use Rattle.things.specs.Rep.{RepP, Rep, is_none}
use Rattle.things.specs.Making.{Linkable, Linked}
use Rattle.things.specs.Turning.{turn_onto, counts, Turnable, Turned}
use Rattle.things.specs.declared.Made.{Made}
use Rattle.things.proofs.Frame.{carry, carry_p}
use Rattle.things.proofs.Turning.{count-more}
use Rattle.forms.proofs.Shapes.{nil-at, first-at}
use Rattle.parse.proofs.InTurn.{linkable, turnable}
use Rattle.scoping.specs.Changing.{objects}
use Rattle.expand.specs.declared.Surroundings.{Surroundings}
use Rattle.expand.specs.Leaves.{Around, around, RepA, Within}
use Rattle.expand.specs.Cycle.{ReadyToExpand, ReadyParts, ExpandedInside, ExpandedParts}
use Rattle.expand.proofs.Surrounding.{carry_a, within-later}

-- ps turned round, and then us
unfoldable pub turn_objects : Stxs → Stxs → Stxs
turn_objects nil us = us
turn_objects (cons x ps) us = turn_objects ps (cons x us)

from_turned : (ps us : Stxs) → turn_onto (from_stxs ps) (from_stxs us) ≡ from_stxs (turn_objects ps us)
unfolding turn_objects turn_onto from_stxs
from_turned nil us = refl
from_turned (cons x ps) us = from_turned ps (cons x us)

-- what is done already, put before what the rest gives
abbrev pub handed_on : Stxs → Stxs → m.Step Stxs
handed_on done us = λ y. ok (turn_objects done us) y

-- the rule for the parts
abbrev pub all : Surroundings → Around → Stxs → m.Step Stxs
all at e ps = expand_all (λ x. inside (λ p. p) (expand at.entries (around e at) x)) ps

-- `from` is left of the chain of ps, and `turned` is what the parts before it became, the last first
pub record Half (at : Surroundings) (st st' l : List ℕ) (s t : State) (from turned : ℕ) (ps : Stxs) (e : Around) : Type 0 where
  pub rest : Stxs
  pub done : Stxs
  pub shown : RepP l t.top from (from_stxs rest)
  pub made : RepP l t.top turned (from_stxs done)
  pub whole : all at e ps (state_of s (store_of st)) ≡ after (all at e rest (state_of t (store_of st'))) (handed_on done)
  pub fits : end t + cell_size * counts (from_stxs done) ≤ end s

pub record Going (at : Surroundings) (st l : List ℕ) (s : State) (c : ℕ) (st' l' : List ℕ) (t : State) (from turned : ℕ) : Type 0 where
  pub kept : Same s.top l l'
  pub grows : s.top ≤ t.top
  pub long : length l' ≡ length l
  pub wide : length st' ≡ length st
  pub few : t.bindings ≤ most_bindings
  pub spent : t.left ≤ s.left
  pub means : (ps : Stxs) (e : Around) → RepP l s.top c (from_stxs ps) → RepA l s.top at e → Half at st st' l' s t from turned ps e

pub parts-start : {at : Surroundings} {st l : List ℕ} {s : State} {c : ℕ} → ReadyParts l st s c at → Going at st l s c st l s c 0
unfolding turn_objects counts from_stxs
parts-start {at} {st} {l} {s} r = record {
  kept = same_refl s.top l;
  grows = omega arith;
  long = refl;
  wide = refl;
  few = r.within.held.few;
  spent = omega arith;
  means = λ ps e w k. record {
    rest = ps;
    done = nil;
    shown = w;
    made = is_none;
    whole = sym (after-done (all at e ps (state_of s (store_of st))));
    fits = omega arith;
  };
}

module _ {at : Surroundings} {st l : List ℕ} {s : State} {c : ℕ} (r : ReadyParts l st s c at) {st1 l1 : List ℕ} {t : State} {from turned : ℕ} (g : Going at st l s c st1 l1 t from turned) where
  half : Half at st st1 l1 s t from turned r.parts r.within.meant
  half = g.means r.parts r.within.meant r.shown r.within.known

  so_far : Later 0 0 l l1 s t
  so_far = record { kept = g.kept; grows = g.grows; fits = omega (arith, half.fits); spent = omega (arith, g.spent) }

  within : Within l1 st1 t at
  within = within-later r.within so_far g.few g.long g.wide

  pub part_less : {T : ℕ} → s.left * 32 + 3 ≡ T → t.left * 32 + 1 < T
  part_less k = omega (arith, g.spent)

  pub part-wide : held_size ≤ length st1
  part-wide = within.held.wide

  module _ (n : ¬ (from ≡ 0)) where
    pub part-inside : from + cell_size ≤ length l1
    part-inside = omega (arith, (first-at half.rest half.shown n refl).cell.inside, within.room.fits)

    module _ {x : Cell} (e : x ≡ get_cell l1 from) where
      pub part-ready : ReadyToExpand l1 st1 t x.head at
      part-ready = let q = first-at half.rest half.shown n e in record { thing = q.first; shown = q.cell.shown; within = within }

      pub part_falls : x.tail < from
      part_falls = (first-at half.rest half.shown n e).cell.low.1

      module _ {st2 l2 : List ℕ} {p : Scopes} {a : Result Out Stop} (same : p ≡ prunable_of st1) (v : ExpandedInside at st1 st2 l1 l2 t p x.head a) where
        -- the set put is the one that is there
        meant-inside : (z : Stx) (d : Around) → Rep l1 t.top x.head (stx z) → RepA l1 t.top at d
            → Agrees objects 1 two_cells l1 l2 t (store_of st2) (inside (λ p. p) (expand at.entries (around d at) z) (state_of t (store_of st1))) a
        unfolding inside
        meant-inside z d w y = rw same at (v.means z d w y)

        pub part-refused : {r : Result Out Stop} {f : Stop} → a ≡ Err f → r ≡ Err f → ExpandedParts at st st2 l l2 s c r
        unfolding expand_all
        part-refused k same = rw same (record {
          means = λ ps d w y.
              let h = g.means ps d w y in
              let q = first-at h.rest h.shown n e in
              stops _ (h.whole ∙ ap (λ (z : Stxs). after (all at d z (state_of t (store_of st1))) (handed_on h.done)) q.is
              ∙ then_no _ (then_no _ (on_refused (meant-inside q.first d q.cell.shown (carry_a y g.kept g.grows)) k)));
        })

        module _ {o : Out} (k : a ≡ Ok o) where
          gave : (z : Stx) (d : Around) → Rep l1 t.top x.head (stx z) → RepA l1 t.top at d
              → Gave objects 1 two_cells l1 l2 t (store_of st2) (inside (λ p. p) (expand at.entries (around d at) z) (state_of t (store_of st1))) o
          gave z d w y = on_done (meant-inside z d w y) k

          pub part_linkable : length l2 ≡ length l1 → Linkable l2 o.state.top o.at turned
          part_linkable len =
              let q = first-at half.rest half.shown n e in
              let j = gave q.first within.meant q.cell.shown within.known in
              linkable within.room j.later (omega arith) len half.made j.shown.rep

          -- The part as it was could be put there as well: code that copies it is refused for what it gives.
          pub part_copy_linkable : length l2 ≡ length l1 → Linkable l2 o.state.top x.head turned
          part_copy_linkable len =
              let q = first-at half.rest half.shown n e in
              let j = gave q.first within.meant q.cell.shown within.known in
              linkable within.room j.later (omega arith) len half.made (carry q.cell.shown j.later.kept j.later.grows)

          pub part-more : {l3 : List ℕ} {d : Made} {u : State} → length l2 ≡ length l1 → length st2 ≡ length st1 → Linked l2 l3 o.state.top o.at turned d.at d.top → length l3 ≡ length l2
              → u ≡ raised_to d.top o.state → Going at st l s c st2 l3 u x.tail d.at
          unfolding expand_all turn_objects from_stxs
          part-more {l3} {d} {u} len wid y len3 z =
              let q0 = first-at half.rest half.shown n e in
              let j0 = gave q0.first within.meant q0.cell.shown within.known in
              rw z (record {
                kept = same_trans s.top t.top l l1 l3 g.grows g.kept (same_trans t.top o.state.top l1 l2 l3 j0.later.grows j0.later.kept y.kept);
                grows = omega (arith, g.grows, j0.later.grows, y.grows);
                long = len3 ∙ len ∙ g.long;
                wide = wid ∙ g.wide;
                few = j0.shown.few;
                spent = omega (arith, g.spent, j0.later.spent);
                means = λ ps env w b.
                    let h = g.means ps env w b in
                    let q = first-at h.rest h.shown n e in
                    let j = gave q.first env q.cell.shown (carry_a b g.kept g.grows) in
                    let more = count-more (stx j.value) (from_stxs h.done) in
                    record {
                      rest = q.others;
                      done = cons j.value h.done;
                      shown = carry_p (carry_p q.cell.shown-others j.later.kept j.later.grows) y.kept (omega (arith, y.grows));
                      made = y.means (stx j.value) (from_stxs h.done) j.shown.rep (carry_p h.made j.later.kept j.later.grows);
                      whole =
                          h.whole ∙ ap (λ (z1 : Stxs). after (all at env z1 (state_of t (store_of st1))) (handed_on h.done)) q.is
                          ∙ ap (λ (z1 : m.Out Stxs). after z1 (handed_on h.done)) (then_ok _ j.is)
                          ∙ after-after (all at env q.others (state_of o.state (store_of st2))) (λ us. λ y1. ok (cons j.value us) y1) (handed_on h.done);
                      fits = omega (arith, more, h.fits, j.later.fits, y.grows);
                    };
              })

  pub parts_turnable : from ≡ 0 → Turnable l1 t.top turned
  parts_turnable z = turnable within.room half.fits (omega (arith, r.within.room.fits, g.long)) half.made

pub parts_turned : {at : Surroundings} {st l : List ℕ} {s : State} {c : ℕ} {st1 l1 : List ℕ} {t : State} {from turned : ℕ} → Going at st l s c st1 l1 t from turned → from ≡ 0
    → {l2 : List ℕ} {d : Made} {u : State} → Turned l1 l2 t.top turned d.at d.top → u ≡ raised_to d.top t → ExpandedParts at st st1 l l2 s c (Ok (record { at = d.at; state = u }))
unfolding expand_all from_stxs
parts_turned {at} {st} {l} {s} {c} {st1} {l1} {t} {from} {turned} g z {l2} {d} {u} y e =
    record {
      means = λ ps env w b.
          let h = g.means ps env w b in
          let k = y.means (from_stxs h.done) h.made in
          rw e (gives (record { at = d.at; state = raised_to d.top t }) (record {
            value = turn_objects h.done nil;
            is = h.whole ∙ ap (λ (z1 : Stxs). after (all at env z1 (state_of t (store_of st1))) (handed_on h.done)) (nil-at h.rest h.shown z);
            shown = record { rep = rw (from_turned h.done nil) at k.0; few = g.few };
            later = record {
              kept = same_trans s.top t.top l l1 l2 g.grows g.kept y.kept;
              grows = omega (arith, g.grows, y.grows);
              fits = omega (arith, h.fits, k.1);
              spent = omega (arith, g.spent);
            };
          }));
    }

pub ruleset parts_laws = (parts-start, part_less, part-wide, part-inside, part-ready, part_falls, part-refused, part_linkable, part_copy_linkable, part-more, parts_turnable, parts_turned)
