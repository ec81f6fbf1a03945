-- A macro's use marked, its use scope carried: one law for each way out.
use Rattle.std.specs.Prelude.{Result, Ok, Err}
use mathlib.Core.Path.{◌≡◌, sym, ap, ◌∙◌}
use mathlib.Core.List.{List}
use Prim.Native.Nat.{ℕ, ◌≤◌}
use lib.ListN.{length}
use Rattle.model.specs.Scopes.{Scopes, add}
use Rattle.model.specs.Objects.{Stx}
use Rattle.model.specs.Trees.{stx}
use Rattle.model.specs.Steps as ms
use Rattle.model.specs.Steps.{ok, carrying, use_scope}
use Rattle.scopes.specs.Sets.{Declared}
use Rattle.store.specs.Sizes.{held_size}
use Rattle.store.specs.Words.{prunable_of, uses_of, Carries}
use Rattle.things.specs.Rep.{Rep}
use Rattle.steps.specs.States.{Store, store_of, no_store, Held, state_of}
use Rattle.steps.specs.Agreement.{Gave, gives, stops}
use Rattle.steps.specs.declared.State.{State}
use Rattle.steps.specs.declared.Stop.{Stop}
use Rattle.steps.proofs.Laws.{then_ok, then_no, on_done, on_refused}
use Rattle.scoping.specs.Changing.{ReadyObject}
use Rattle.scoping.specs.Fresh.{marks, mark_rule, MarksFresh}
use Rattle.scoping.specs.declared.Mark.{Mark}
use Rattle.expand.specs.Leaves.{UsesScope, used_rule, MarksUse}
use Rattle.expand.proofs.Carried.{put_state}
use Rattle.table.specs.Sizes.{node_spare}

pub marked-wide : {st : List ℕ} {s : State} → Held st s → held_size ≤ length st
marked-wide h = h.wide

module _ {ph : ℕ} {l l1 : List ℕ} {s : State} {i : ℕ} {z : Result Mark Stop} (v : MarksFresh ph l l1 s i z) where
  pub marked_refused : {r : Result Mark Stop} {st : List ℕ} {f : Stop} → z ≡ Err f → r ≡ Err f → MarksUse ph st st l l1 s i r
  unfolding used_rule
  marked_refused {st = st} e same = rw same (record { means = λ x a. stops _ (then_no _ (on_refused (v.means (store_of st) x a) e)) })

  module _ {o : Mark} (e : z ≡ Ok o) where
    marked-to : (q : Store) (x : Stx) → Rep l s.top i (stx x) → Gave marks 1 node_spare l l1 s q (mark_rule ph x (state_of s q)) o
    marked-to q x a = on_done (v.means q x a) e

    pub marked-declared : ReadyObject l s i → Declared o.uses
    marked-declared r = (marked-to no_store r.thing r.shown).shown.uses-declared

    module _ {st st1 : List ℕ} (put : UsesScope o.uses.0 st st1) where
      -- the use scope is carried from here on
      used : (x : Stx) (a : Rep l s.top i (stx x)) → use_scope (marked-to (store_of st) x a).value.uses (state_of o.state (store_of st)) ≡ ok tt (state_of o.state (store_of st1))
      unfolding use_scope
      used x a =
          let j = marked-to (store_of st) x a in
          ap (λ (y : ms.State). ok tt y)
          ((λ c. carrying (add ((sym j.shown.uses) c) (prunable_of st)) (add ((sym j.shown.uses) c) (uses_of st)) (state_of o.state (store_of st))) ∙ sym (put_state o.state put.carries j.shown.few))

      pub marked-done : MarksUse ph st st1 l l1 s i (Ok o)
      unfolding used_rule
      marked-done =
          record {
            means = λ x a.
                let j = marked-to (store_of st) x a in
                gives o (record { value = j.value; is = then_ok _ j.is ∙ then_ok (λ c. λ y. ok j.value y) (used x a); shown = j.shown; later = j.later });
          }

pub scope-used : {k : ℕ} {st st1 : List ℕ} {p u p1 u1 : Scopes} → p ≡ prunable_of st → u ≡ uses_of st → p1 ≡ add k p → u1 ≡ add k u → Carries p1 u1 st st1 → UsesScope k st st1
scope-used {k} {st} {st1} was had more also put =
    record {
      carries =
          record {
            prunable = put.prunable ∙ more ∙ ap (λ (y : Scopes). add k y) was;
            uses = put.uses ∙ also ∙ ap (λ (y : Scopes). add k y) had;
            same = put.same;
          };
    }

pub ruleset laws = (marked-wide, marked_refused, marked-declared, marked-done, scope-used)
