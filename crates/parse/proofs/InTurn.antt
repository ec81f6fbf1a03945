-- Parsing the parts of a chain in turn: what the loop knows, and one law for each of its needs.
use mathlib.Core.Path.{◌≡◌, refl, sym, ap, ◌∙◌}
use mathlib.Core.List.{List}
use Prim.Native.Nat.{ℕ, ◌+◌, ◌*◌, ◌≤◌, ◌<◌}
use native.Mathlib.Omega.{arith}
use lib.ListN.{length}
use Rattle.std.specs.Prelude.{Result, Ok, Err}
use Rattle.store.specs.Sizes.{most_bindings}
use Rattle.model.specs.Objects.{Stx, Stxs}
use Rattle.model.specs.Trees.{Tree, Trees, tnil, tcons, stx, from_stxs}
use Rattle.model.specs.Steps as m
use Rattle.model.specs.Steps.{ok, after}
use Rattle.model.specs.Parsing.{parse_all, parse}
use Rattle.steps.specs.States.{store_of, state_of, raised_to, end, Room}
use Rattle.steps.specs.Agreement.{Later, Gave, gives, stops}
use Rattle.steps.specs.declared.State.{State}
use Rattle.steps.specs.declared.Stop.{Stop}
use Rattle.steps.specs.declared.Out.{Out}
use Rattle.steps.proofs.Laws.{then_ok, then_no, after-after, after-done, on_done, on_refused}
use Rattle.table.specs.Sizes.{cell_size, two_cells}
use Rattle.table.specs.Words.{get_cell, Same}
use Rattle.table.specs.declared.Cell.{Cell}
use Rattle.table.proofs.Laws.{same_refl, same_trans}
use Rattle.things.specs.Rep.{RepP, Rep, is_none}
use Rattle.things.specs.Making.{Linkable, Linked}
use Rattle.things.specs.Turning.{turn_onto, counts, Turnable, Turned}
use Rattle.things.specs.declared.Made.{Made}
use Rattle.things.proofs.Frame.{carry_p}
use Rattle.things.proofs.Turning.{count-more}
use Rattle.forms.proofs.Shapes.{nil-at, first-at}
use Rattle.parse.specs.Shown.{trees}
use Rattle.parse.specs.Parsing.{ReadyToParse, ReadyParts, Parsed, ParsedParts}

-- ---- what work on parts in turn needs, whatever the parts become

-- what a part became can be linked before what was made until then
pub linkable : {n v : ℕ} {l l1 : List ℕ} {s t : State} {i c : ℕ} {x : Tree} {made : Trees} → Room l s → Later n v l l1 s t → cell_size ≤ v → length l1 ≡ length l → RepP l s.top c made
    → Rep l1 t.top i x → Linkable l1 t.top i c
linkable {x = x} {made = made} r p h len w y =
    record {
      thing = x;
      others = made;
      shown = y;
      shown-others = carry_p w p.kept p.grows;
      room = record { fits = omega (arith, p.fits, r.fits, len, h); small = omega (arith, r.small, len); low = omega (arith, r.low, p.grows) };
    }

-- what was made can be turned where the words for it are left
pub turnable : {n : ℕ} {l : List ℕ} {s : State} {c : ℕ} {made : Trees} → Room l s → end s + cell_size * counts made ≤ n → n ≤ length l → RepP l s.top c made → Turnable l s.top c
turnable {made = made} r h k w = record { thing = made; shown = w; room = omega (arith, h, k); small = r.small; low = r.low }

-- ---- the parts of a list

-- the chain `turned` put before what the rest gives
abbrev handed_on : Trees → Trees → m.Step Trees
handed_on done us = λ y. ok (turn_onto done us) y

-- `from` is left of the chain of ps, and `turned` is the trees of the parts before it, the last first
pub record Half (entries ph : ℕ) (st l : List ℕ) (s t : State) (from turned : ℕ) (ps : Stxs) : Type 0 where
  pub rest : Stxs
  pub done : Trees
  pub shown : RepP l t.top from (from_stxs rest)
  pub made : RepP l t.top turned done
  pub whole : parse_all (λ y. parse entries ph y) ps (state_of s (store_of st)) ≡ after (parse_all (λ y. parse entries ph y) rest (state_of t (store_of st))) (handed_on done)
  pub fits : end t + cell_size * counts done ≤ end s

pub record Going (entries ph : ℕ) (st l : List ℕ) (s : State) (c : ℕ) (l' : List ℕ) (t : State) (from turned : ℕ) : Type 0 where
  pub kept : Same s.top l l'
  pub grows : s.top ≤ t.top
  pub long : length l' ≡ length l
  pub few : t.bindings ≤ most_bindings
  pub spent : t.left ≤ s.left
  pub means : (ps : Stxs) → RepP l s.top c (from_stxs ps) → Half entries ph st l' s t from turned ps

pub parts-start : {entries ph : ℕ} {st l : List ℕ} {s : State} {c : ℕ} → ReadyParts l st s c → Going entries ph st l s c l s c 0
unfolding turn_onto counts
parts-start {entries} {ph} {st} {l} {s} r = record {
  kept = same_refl s.top l;
  grows = omega arith;
  long = refl;
  few = r.held.few;
  spent = omega arith;
  means = λ ps w. record {
    rest = ps;
    done = tnil;
    shown = w;
    made = is_none;
    whole = sym (after-done (parse_all (λ y. parse entries ph y) ps (state_of s (store_of st))));
    fits = omega arith;
  };
}

module _ {entries ph : ℕ} {st l : List ℕ} {s : State} {c : ℕ} (r : ReadyParts l st s c) {l1 : List ℕ} {t : State} {from turned : ℕ} (g : Going entries ph st l s c l1 t from turned) where
  half : Half entries ph st l1 s t from turned r.thing
  half = g.means r.thing r.shown

  room : Room l1 t
  room = record { fits = omega (arith, half.fits, r.room.fits, g.long); small = omega (arith, r.room.small, g.long); low = omega (arith, r.room.low, g.grows) }

  pub part_less : {T : ℕ} → s.left * 8 + 2 ≡ T → t.left * 8 < T
  part_less k = omega (arith, g.spent)

  module _ (n : ¬ (from ≡ 0)) where
    pub part-inside : from + cell_size ≤ length l1
    part-inside = omega (arith, (first-at half.rest half.shown n refl).cell.inside, room.fits)

    module _ {x : Cell} (e : x ≡ get_cell l1 from) where
      pub part-ready : ReadyToParse l1 st t x.head
      part-ready =
          let q = first-at half.rest half.shown n e in
          record { thing = q.first; shown = q.cell.shown; room = room; held = record { few = g.few; wide = r.held.wide } }

      pub part_falls : x.tail < from
      part_falls = (first-at half.rest half.shown n e).cell.low.1

      module _ {l2 : List ℕ} {a : Result Out Stop} (v : Parsed entries ph st l1 l2 t x.head a) where
        pub part-refused : {f : Stop} → a ≡ Err f → ParsedParts entries ph st l l2 s c (Err f)
        unfolding parse_all
        part-refused k = record {
          means = λ ps w.
              let h = g.means ps w in
              let q = first-at h.rest h.shown n e in
              stops _ (h.whole ∙ ap (λ (z : Stxs). after (parse_all (λ y. parse entries ph y) z (state_of t (store_of st))) (handed_on h.done)) q.is
              ∙ then_no _ (then_no _ (on_refused (v.means q.first q.cell.shown) k)));
        }

        module _ {o : Out} (k : a ≡ Ok o) where
          gave : (x1 : Stx) → Rep l1 t.top x.head (stx x1) → Gave trees 1 two_cells l1 l2 t (store_of st) (parse entries ph x1 (state_of t (store_of st))) o
          gave x1 w = on_done (v.means x1 w) k

          pub part_linkable : length l2 ≡ length l1 → Linkable l2 o.state.top o.at turned
          part_linkable len =
              let q = first-at half.rest half.shown n e in
              let j = gave q.first q.cell.shown in
              linkable room j.later (omega arith) len half.made j.shown.rep

          pub part-more : {l3 : List ℕ} {d : Made} {u : State} → length l2 ≡ length l1 → Linked l2 l3 o.state.top o.at turned d.at d.top → length l3 ≡ length l2
              → u ≡ raised_to d.top o.state → Going entries ph st l s c l3 u x.tail d.at
          unfolding parse_all turn_onto
          part-more {l3} {d} {u} len y len3 z =
              let q0 = first-at half.rest half.shown n e in
              let j0 = gave q0.first q0.cell.shown in
              rw z (record {
                kept = same_trans s.top t.top l l1 l3 g.grows g.kept (same_trans t.top o.state.top l1 l2 l3 j0.later.grows j0.later.kept y.kept);
                grows = omega (arith, g.grows, j0.later.grows, y.grows);
                long = len3 ∙ len ∙ g.long;
                few = j0.shown.few;
                spent = omega (arith, g.spent, j0.later.spent);
                means = λ ps w.
                    let h = g.means ps w in
                    let q = first-at h.rest h.shown n e in
                    let j = gave q.first q.cell.shown in
                    let more = count-more j.value h.done in
                    record {
                      rest = q.others;
                      done = tcons j.value h.done;
                      shown = carry_p (carry_p q.cell.shown-others j.later.kept j.later.grows) y.kept (omega (arith, y.grows));
                      made = y.means j.value h.done j.shown.rep (carry_p h.made j.later.kept j.later.grows);
                      whole =
                          h.whole ∙ ap (λ (z1 : Stxs). after (parse_all (λ y1. parse entries ph y1) z1 (state_of t (store_of st))) (handed_on h.done)) q.is
                          ∙ ap (λ (z1 : m.Out Trees). after z1 (handed_on h.done)) (then_ok _ j.is)
                          ∙ after-after (parse_all (λ y1. parse entries ph y1) q.others (state_of o.state (store_of st))) (λ us. λ y1. ok (tcons j.value us) y1) (handed_on h.done);
                      fits = omega (arith, more, h.fits, j.later.fits, y.grows);
                    };
              })

  pub parts_turnable : from ≡ 0 → Turnable l1 t.top turned
  parts_turnable z = turnable room half.fits (omega (arith, r.room.fits, g.long)) half.made

pub parts_turned : {entries ph : ℕ} {st l : List ℕ} {s : State} {c : ℕ} {l1 : List ℕ} {t : State} {from turned : ℕ} → Going entries ph st l s c l1 t from turned → from ≡ 0
    → {l2 : List ℕ} {d : Made} {u : State} → Turned l1 l2 t.top turned d.at d.top → u ≡ raised_to d.top t → ParsedParts entries ph st l l2 s c (Ok (record { at = d.at; state = u }))
unfolding parse_all
parts_turned {entries} {ph} {st} {l} {s} {c} {l1} {t} {from} {turned} g z {l2} {d} {u} y e =
    record {
      means = λ ps w.
          let h = g.means ps w in
          let k = y.means h.done h.made in
          rw e (gives (record { at = d.at; state = raised_to d.top t }) (record {
            value = turn_onto h.done tnil;
            is = h.whole ∙ ap (λ (z1 : Stxs). after (parse_all (λ y1. parse entries ph y1) z1 (state_of t (store_of st))) (handed_on h.done)) (nil-at h.rest h.shown z);
            shown = record { rep = k.0; few = g.few };
            later = record {
              kept = same_trans s.top t.top l l1 l2 g.grows g.kept y.kept;
              grows = omega (arith, g.grows, y.grows);
              fits = omega (arith, h.fits, k.1);
              spent = omega (arith, g.spent);
            };
          }));
    }

pub ruleset parts_laws = (parts-start, part_less, part-inside, part-ready, part_falls, part-refused, part_linkable, part-more, parts_turnable, parts_turned)
