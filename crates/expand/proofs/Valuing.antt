-- The value of a right-hand side, and the body with it: one law for each way out.
use Rattle.expand.specs.declared.rewriting.Next.{Next}
use Rattle.std.specs.Prelude.{Result, Ok, Err}
use mathlib.Core.Path.{◌≡◌}
use mathlib.Core.List.{List}
use Prim.Native.Nat.{ℕ, ◌+◌, ◌*◌, ◌^◌, ◌<◌}
use native.Mathlib.Omega.{arith}
use lib.ListN.{length}
use Rattle.model.specs.Limits.{last_phase}
use Rattle.model.specs.Objects.{Stx}
use Rattle.model.specs.Trees.{stx}
use Rattle.model.specs.Meanings.{macro, nowhere}
use Rattle.model.specs.Parsing.{parse}
use Rattle.things.specs.Rep.{Rep}
use Rattle.things.proofs.Frame.{carry}
use Rattle.steps.specs.States.{store_of, state_of}
use Rattle.steps.specs.Agreement.{Gave, stops}
use Rattle.steps.specs.declared.State.{State}
use Rattle.steps.specs.declared.Stop.{Stop}
use Rattle.steps.specs.declared.Out.{Out}
use Rattle.steps.proofs.Laws.{then_ok, then_no, room-later, on_done, on_refused, since}
use Rattle.parse.specs.Shown.{trees}
use Rattle.parse.specs.Parsing as pp
use Rattle.parse.specs.Parsing.{Parsed}
use Rattle.environment.specs.declared.Place.{Place}
use Rattle.environment.specs.Places.{is-nowhere}
use Rattle.environment.specs.Meanings.{meant-macro}
use Rattle.scoping.specs.declared.Binder.{Binder}
use Rattle.expand.specs.Values.{evaluation, ReadyValue, value_rule, GivesValue}
use Rattle.expand.specs.InPlace.{ReadyScoped, Scoped, ReadyDefined, defined_rule, Defined}
use Rattle.expand.specs.Evaluation.{ReadyToEvaluate, Evaluates}
use Rattle.expand.specs.declared.Surroundings.{Surroundings}
use Rattle.expand.proofs.Surrounding.{carry_a}
use Rattle.table.specs.Sizes.{cell_size, two_cells}

-- ---- the value

pub value-parse : {l st : List ℕ} {s : State} {i : ℕ} → ReadyValue l st s i → pp.ReadyToParse l st s i
value-parse r = record { thing = r.thing; shown = r.shown; room = r.room; held = r.held }

module _ {entries ph : ℕ} {st l l1 : List ℕ} {s : State} {i : ℕ} {a : Result Out Stop} (v : Parsed entries ph st l l1 s i a) where
  pub value-refused : {r : Result Out Stop} {f : Stop} → a ≡ Err f → r ≡ Err f → GivesValue entries ph st st l l1 s i r
  unfolding value_rule
  value-refused e same = rw same (record { means = λ x w. stops _ (then_no _ (on_refused (v.means x w) e)) })

  module _ {o : Out} (e : a ≡ Ok o) where
    parsed-to : (x : Stx) → Rep l s.top i (stx x) → Gave trees 1 two_cells l l1 s (store_of st) (parse entries ph x (state_of s (store_of st))) o
    parsed-to x w = on_done (v.means x w) e

    module _ {place : Place} (n : place.intro.0 ≡ 0) where
      pub value-evaluate : ReadyValue l st s i → length l1 ≡ length l → ReadyToEvaluate l1 st o.state o.at place
      value-evaluate r len =
          let g = parsed-to r.thing r.shown in
          record {
            thing = g.value;
            shown = g.shown.rep;
            placed = record { where_it_is = nowhere; stands = is-nowhere n; room = room-later r.room g.later len; few = g.shown.few; wide = λ k here z. r.held.wide };
          }

      pub value-done : {st1 l2 : List ℕ} {q : Result Out Stop} → Evaluates entries place st st1 l1 l2 o.state o.at q → GivesValue entries ph st st1 l l2 s i q
      unfolding value_rule
      value-done d =
          record {
            means = λ x w.
                let g = parsed-to x w in
                since 1 two_cells g.later (omega arith) (omega arith) (then_ok _ g.is) (d.means g.value nowhere g.shown.rep (is-nowhere n));
          }

    pub value_less : {T : ℕ} → ReadyValue l st s i → s.left * 32 + 1 ≡ T → o.state.left * 32 < T
    value_less r z = omega (arith, (parsed-to r.thing r.shown).later.spent)

-- ---- the body, with the value of an expanded right-hand side

module _ {st l : List ℕ} {s : State} {b : Binder} {right body : ℕ} {at : Surroundings} (r : ReadyDefined l st s b right body at) where
  pub defined_up : at.phase + 1 < 2 ^ 32
  unfolding last_phase
  defined_up = omega (arith, r.low)

  pub defined_value_ready : ReadyValue l st s right
  defined_value_ready = record { thing = r.thing; shown = r.shown; room = r.within.room; held = r.within.held }

pub defined_less : (s : State) {T : ℕ} → s.left * 32 + 2 ≡ T → s.left * 32 + 1 < T
defined_less s z = omega arith

module _ (at : Surroundings) {st st1 l l1 : List ℕ} {s : State} {right : ℕ} {a : Result Out Stop} (v : GivesValue at.entries (at.phase + 1) st st1 l l1 s right a) where
  pub defined_refused : {r : Result Next Stop} {b : Binder} {body : ℕ} {f : Stop} → a ≡ Err f → r ≡ Err f → Defined at st st1 l l1 s b right body r
  unfolding defined_rule
  defined_refused e same = rw same (record { means = λ k u y g n w z c. stops _ (then_no _ (on_refused (v.means u w) e)) })

  module _ {o : Out} (e : a ≡ Ok o) where
    value-to : (u : Stx) → Rep l s.top right (stx u) → Gave trees 1 two_cells l l1 s (store_of st1) (value_rule (evaluation at.entries) at.entries (at.phase + 1) u (state_of s (store_of st))) o
    value-to u w = on_done (v.means u w) e

    pub defined_scoped_ready : {b : Binder} {body : ℕ} → ReadyDefined l st s b right body at → length l1 ≡ length l → ReadyScoped l1 o.state b 1 o.at body at
    defined_scoped_ready r len =
        let g = value-to r.thing r.shown in
        record {
          binder = r.binder;
          meaning = macro g.value;
          object = r.object;
          meant = r.within.meant;
          named = r.named;
          shown = meant-macro g.shown.rep;
          shown_body = carry r.shown_body g.later.kept g.later.grows;
          known = carry_a r.within.known g.later.kept g.later.grows;
          room = room-later r.within.room g.later len;
          few = g.shown.few;
        }

    pub defined_scoped : {b : Binder} {body : ℕ} {l2 : List ℕ} {q : Result Next Stop} → Scoped at l1 l2 o.state b 1 o.at body q → Defined at st st1 l l2 s b right body q
    unfolding defined_rule
    defined_scoped c =
        record {
          means = λ n u y g h w z k.
              let j = value-to u w in
              since 1 cell_size j.later (omega arith) (omega arith) (then_ok _ j.is)
              (c.means (store_of st1) n (macro j.value) y g h (meant-macro j.shown.rep) (carry z j.later.kept j.later.grows) (carry_a k j.later.kept j.later.grows));
        }

pub ruleset laws = (value-parse, value-refused, value-evaluate, value-done, value_less, defined_up, defined_value_ready, defined_less, defined_refused, defined_scoped_ready, defined_scoped)
