-- An entry of evaluating, and what its form asks for: one law for each way through them.
use Rattle.std.specs.Prelude.{Result, Ok, Err}
use mathlib.Core.Path.{◌≡◌, refl, sym, ap}
use mathlib.Core.List.{List}
use Prim.Native.Nat.{ℕ, ◌+◌, ◌-◌, ◌*◌, ◌≤◌, ◌<◌}
use native.Mathlib.Omega.{arith}
use lib.ListN.{length}
use Rattle.refusals.specs.declared.Refusal.TheVariants.{Unowned}
use Rattle.steps.specs.declared.State.{State}
use Rattle.steps.specs.declared.Out.{Out}
use Rattle.steps.specs.declared.Stop.{Stop}
use Rattle.steps.specs.States.{store_of, state_of, stop_of, enter_of}
use Rattle.steps.specs.Agreement.{Later, gives, stops}
use Rattle.model.specs.Meanings as m
use Rattle.model.specs.Steps as ms
use Rattle.model.specs.Steps.{ok}
use Rattle.model.specs.Trees.{Tree}
use Rattle.model.specs.Evaluating.{Evaluator, Expander, eval_entry}
use Rattle.table.specs.Tags.{variable_tag, application_tag}
use Rattle.table.specs.Words.{get_node}
use Rattle.table.specs.declared.Node.{Node}
use Rattle.things.specs.Rep.{Rep, is-var, is-app, is-fun, is-lst, is-datum, is-atom, is-list}
use Rattle.things.proofs.Frame.{below}
use Rattle.things.proofs.ByTag.{tag_is, var-at, app-at}
use Rattle.steps.proofs.Laws.{entry_refused, entry_goes, enter_spare, enter_went, later_refl, later-paid, room-later, since}
use Rattle.environment.specs.declared.Place.{Place}
use Rattle.environment.proofs.Frame.{carry_place}
use Rattle.expand.specs.Values.{evaluation}
use Rattle.expand.specs.Evaluation.{Placed, ReadyToEvaluate, ReadyApplication, Evaluates, Forms, Applies}
use Rattle.expand.specs.Cycle.{expansion}
use Rattle.expand.proofs.Rules.{evaluate_entry}
use Rattle.table.specs.Sizes.{node_size, unit_size}

-- ---- a place, later

pub placed-later : {n v : ℕ} {l l1 st st1 : List ℕ} {s s1 : State} {place : Place} → Placed l st s place → Later n v l l1 s s1 → s1.bindings ≤ 512 → length l1 ≡ length l → length st1 ≡ length st → Placed l1 st1 s1 place
placed-later r p few len len2 =
    record {
      where_it_is = r.where_it_is;
      stands = carry_place r.stands p.kept p.grows;
      room = room-later r.room p len;
      few = few;
      wide = λ k here e. omega (arith, r.wide k here e, len2);
    }

-- ---- an entry

pub entry_stops : {r : Result Out Stop} {entries : ℕ} {place : Place} {st : List ℕ} {s : State} {x : Result State Stop} {e : Stop} {l : List ℕ} {i : ℕ} → x ≡ enter_of entries s → x ≡ Err e
    → r ≡ Err e → Evaluates entries place st st l l s i r
entry_stops {entries = entries} {st = st} {s = s} {e = e} h k same = rw same (record { means = λ t q w p. stops e (entry_refused (evaluate_entry q t) entries s (store_of st) h k) })

module _ (entries : ℕ) (s : State) {u : State} {x : Result State Stop} (h : x ≡ enter_of entries s) (e : x ≡ Ok u) where
  pub entry_spare : 1 ≤ entries
  entry_spare = enter_spare entries s h e

  pub entry_less : {T : ℕ} → s.left * 32 ≡ T → u.left * 32 + 3 < T
  entry_less k = let q = enter_went entries s h e in omega (arith, q.enough, ap (λ (y : State). y.left) q.is)

  module _ {st l : List ℕ} {place : Place} {i : ℕ} where
    pub entry_ready : ReadyToEvaluate l st s i place → ReadyToEvaluate l st u i place
    entry_ready r =
        let w = enter_went entries s h e in
        let top : u.top ≡ s.top = ap (λ (y : State). y.top) w.is in
        let few : u.bindings ≡ s.bindings = ap (λ (y : State). y.bindings) w.is in
        record { thing = r.thing; shown = rw top r.shown; placed = placed-later r.placed (later-paid l w) (omega (arith, few, r.placed.few)) refl refl }

    pub entry_formed : {st1 l1 : List ℕ} {r : Result Out Stop} → Forms (entries - 1) place st st1 l l1 u i r → Evaluates entries place st st1 l l1 s i r
    entry_formed {st1} {l1} {r} f =
        let w = enter_went entries s h e in
        let top : s.top ≡ u.top = sym (ap (λ (y : State). y.top) w.is) in
        record { means = λ t q a p. since 1 unit_size (later-paid l w) (omega arith) (omega arith) (entry_goes (evaluate_entry q t) entries s (store_of st) h e) (f.means t q (rw top at a) (rw top at p)) }

-- ---- its form

pub form_inside : {l st : List ℕ} {s : State} {i : ℕ} {place : Place} → ReadyToEvaluate l st s i place → i + node_size ≤ length l
form_inside r = omega (arith, below r.shown, r.placed.room.fits)

value-is : {l : List ℕ} {i : ℕ} {o : Node} {top : ℕ} {t : Tree} (e : o ≡ get_node l i) (self : Evaluator) (other : Expander) (place : m.Place) (y : ms.State) → Rep l top i t
    → ¬ (o.tag ≡ variable_tag) → ¬ (o.tag ≡ application_tag) → eval_entry self other place t y ≡ ok t y
unfolding eval_entry
value-is e self other place y (is-var a q) n6 n7 = absurd (n6 (tag_is e q))
value-is e self other place y (is-app a q r) n6 n7 = absurd (n7 (tag_is e q))
value-is e self other place y (is-fun a q z r) n6 n7 = refl
value-is e self other place y (is-datum a q) n6 n7 = refl
value-is e self other place y (is-lst a q r) n6 n7 = refl
value-is e self other place y (is-atom a q z) n6 n7 = refl
value-is e self other place y (is-list a q z r) n6 n7 = refl

module _ {place : Place} {st l : List ℕ} {s : State} {i : ℕ} {o : Node} (e : o ≡ get_node l i) where
  pub form_var : {entries : ℕ} {r : Result Out Stop} → o.tag ≡ variable_tag → r ≡ Err (stop_of Unowned s) → Forms entries place st st l l s i r
  unfolding eval_entry
  form_var h same = rw same (record { means = λ t q r p. stops (stop_of Unowned s) (rw (var-at r e h) refl) })

  pub form_ready : ReadyToEvaluate l st s i place → o.tag ≡ application_tag → ReadyApplication l st s o.content place
  form_ready r h = let p = app-at r.shown e h in record { first = p.first; others = p.others; shown = p.shown; placed = r.placed }

  pub form_app : {entries : ℕ} {st1 l1 : List ℕ} {r : Result Out Stop} → o.tag ≡ application_tag → Applies entries place st st1 l l1 s o.content r → Forms entries place st st1 l l1 s i r
  form_app h a = record { means = λ t q w p. let k = app-at w e h in rw k.is (a.means k.first k.others q k.shown p) }

  pub form_value : {entries : ℕ} → ReadyToEvaluate l st s i place → ¬ (o.tag ≡ variable_tag) → ¬ (o.tag ≡ application_tag) → Forms entries place st st l l s i (Ok (record { at = i; state = s }))
  form_value {entries} r n6 n7 =
      record {
        means = λ t q w p.
            gives (record { at = i; state = s }) (record {
              value = t;
              is = value-is e (evaluation entries) (expansion entries) q (state_of s (store_of st)) w n6 n7;
              shown = record { rep = w; few = r.placed.few };
              later = later_refl l s;
            });
      }

pub form_less : (s : State) {T : ℕ} → s.left * 32 + 3 ≡ T → s.left * 32 + 2 < T
form_less s z = omega arith

pub ruleset laws = (entry_stops, entry_spare, entry_less, entry_ready, entry_formed, form_inside, form_var, form_ready, form_app, form_value, form_less)
