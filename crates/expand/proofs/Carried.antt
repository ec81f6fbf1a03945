-- An expansion of its own, with other sets carried, and afterwards those of before.
use Rattle.std.specs.Prelude.{Result}
use mathlib.Core.Path.{◌≡◌, sym, ap, ◌∙◌}
use mathlib.Core.List.{List}
use Prim.Native.Nat.{ℕ, ◌+◌, ◌*◌, ◌≤◌, ◌<◌}
use native.Mathlib.Omega.{arith}
use lib.ListN.{length}
use Rattle.model.specs.Scopes.{Scopes, no_scopes}
use Rattle.model.specs.Objects.{Stx}
use Rattle.model.specs.Steps as ms
use Rattle.model.specs.Steps.{ok, no, after, Step, carrying, inside}
use Rattle.model.specs.Expanding.{expand}
use Rattle.store.specs.Sizes.{most_bindings, held_size}
use Rattle.store.specs.Words.{prunable_of, uses_of, Carries}
use Rattle.steps.specs.States.{store_of, state_of}
use Rattle.steps.specs.Agreement.{Agrees, gives, stops}
use Rattle.steps.specs.declared.State.{State}
use Rattle.steps.specs.declared.Stop.{Stop}
use Rattle.steps.specs.declared.Out.{Out}
use Rattle.steps.proofs.Laws.{then_ok, then_no}
use Rattle.scoping.specs.Changing.{objects}
use Rattle.expand.specs.Leaves.{around}
use Rattle.expand.specs.Cycle.{ReadyToExpand, Expanded, ExpandedInside}
use Rattle.expand.specs.declared.Surroundings.{Surroundings}

-- other sets in the store are other sets in the rules' state
pub put_state : {p u : Scopes} {st st1 : List ℕ} (s : State) → Carries p u st st1 → s.bindings ≤ most_bindings → state_of s (store_of st1) ≡ carrying p u (state_of s (store_of st))
unfolding carrying
put_state s w few =
    λ i. record { left = s.left; names = s.names; scopes = s.scopes; binds = (w.same s.bindings few) i; prunable = w.prunable i; uses = w.uses i }

-- from the sets of before, the set put with no use scopes, and the sets of before put back
inside_agrees : {n v : ℕ} {l l1 : List ℕ} {s : State} {st st1 st2 st3 : List ℕ} {p : Scopes} (m : Step Stx) {x : Result Out Stop} → s.bindings ≤ most_bindings → Carries p no_scopes st st1 → Carries (prunable_of st) (uses_of st) st2 st3
    → Agrees objects n v l l1 s (store_of st2) (m (state_of s (store_of st1))) x → Agrees objects n v l l1 s (store_of st3) (inside (λ q. p) m (state_of s (store_of st))) x
unfolding inside
inside_agrees {s = s} m few put back (gives o g) =
    gives o (record {
      value = g.value;
      is =
          then_ok _ (ap m (sym (put_state s put few)) ∙ g.is)
          ∙ ap (λ (y : ms.State). ok g.value y) (sym (put_state o.state back g.shown.few));
      shown = g.shown;
      later = g.later;
    })
inside_agrees {s = s} m few put back (stops f g) = stops f (then_no _ (ap m (sym (put_state s put few)) ∙ g))

module _ {l st : List ℕ} {s : State} {i : ℕ} {at : Surroundings} (r : ReadyToExpand l st s i at) where
  pub inside-wide : held_size ≤ length st
  inside-wide = r.within.held.wide

  pub inside-ready : {st1 : List ℕ} → length st1 ≡ length st → ReadyToExpand l st1 s i at
  inside-ready len =
      record {
        thing = r.thing;
        shown = r.shown;
        within = record { meant = r.within.meant; known = r.within.known; room = r.within.room; held = record { few = r.within.held.few; wide = omega (arith, r.within.held.wide, len) } };
      }

  pub inside_is : {st1 st2 st3 l1 : List ℕ} {was had p none : Scopes} {a : Result Out Stop} → was ≡ prunable_of st → had ≡ uses_of st → none ≡ no_scopes → Carries p none st st1 → Expanded at st1 st2 l l1 s i a → Carries was had st2 st3
      → ExpandedInside at st st3 l l1 s p i a
  inside_is e j z put v back = record { means = λ x g w k. inside_agrees (expand at.entries (around g at) x) r.within.held.few (rw z at put) (rw (e, j) at back) (v.means x g w k) }

pub inside_less : (s : State) {T : ℕ} → s.left * 32 + 1 ≡ T → s.left * 32 < T
inside_less s e = omega arith

pub ruleset laws = (inside-wide, inside-ready, inside_is, inside_less)
