-- Applications, and bodies: one law for each way through them.
use Rattle.std.specs.Prelude.{Result, Ok, Err}
use mathlib.Core.Path.{◌≡◌, ◌∙◌}
use mathlib.Core.List.{List}
use Prim.Native.Nat.{ℕ, ◌+◌, ◌*◌, ◌≤◌, ◌<◌}
use native.Mathlib.Omega.{arith}
use lib.ListN.{length}
use Rattle.model.specs.Scopes.{Scopes, add}
use Rattle.model.specs.Objects.{Stxs}
use Rattle.model.specs.Trees.{from_stxs}
use Rattle.model.specs.Steps.{inside}
use Rattle.model.specs.Expanding.{expand_all, expand_application, expand}
use Rattle.scopes.specs.Sets.{Declared}
use Rattle.store.specs.Sizes.{held_size}
use Rattle.store.specs.Words.{prunable_of}
use Rattle.things.specs.Rep.{RepP}
use Rattle.things.proofs.Frame.{carry}
use Rattle.steps.specs.States.{store_of, state_of}
use Rattle.steps.specs.Agreement.{Gave, Agrees, stops}
use Rattle.steps.specs.declared.State.{State}
use Rattle.steps.specs.declared.Stop.{Stop}
use Rattle.steps.specs.declared.Out.{Out}
use Rattle.steps.proofs.Laws.{then_ok, then_no, on_done, on_refused}
use Rattle.parse.specs.Parsing.{unpaid}
use Rattle.scoping.specs.Changing.{objects}
use Rattle.expand.specs.Making.{ReadyList, Lists}
use Rattle.expand.specs.Leaves.{Around, around, RepA}
use Rattle.expand.specs.InPlace.{further}
use Rattle.expand.specs.Cycle.{parts_of, ReadyToExpand, ReadyParts, ReadyChain, ReadyNext, ExpandedInside, ExpandedNext, ExpandedApplication, ExpandedParts}
use Rattle.expand.specs.declared.Surroundings.{Surroundings}
use Rattle.expand.specs.declared.rewriting.Next.{Next}
use Rattle.expand.proofs.Agreeing.{beyond}
use Rattle.expand.proofs.Leaves.{owes_one}
use Rattle.table.specs.Sizes.{two_cells}
use Rattle.expand.proofs.Surrounding.{within-paid}

-- ---- application

pub application_parts : {st l : List ℕ} (s : State) {i c : ℕ} {at : Surroundings} → ReadyChain l st (unpaid s) i c at → ReadyParts l st s c at
unfolding unpaid
application_parts s r = record { parts = r.parts; shown = r.chain; within = within-paid s r.within }

module _ {at : Surroundings} {st st1 l l1 : List ℕ} (s : State) {c : ℕ} {a : Result Out Stop} (v : ExpandedParts at st st1 l l1 s c a) where
  pub application_refused : {r : Result Out Stop} {i : ℕ} {f : Stop} → a ≡ Err f → r ≡ Err f → ExpandedApplication at st st1 l l1 s i c r
  unfolding expand_application
  application_refused e same = rw same (record { means = λ k ps g u w y. stops _ (then_no _ (on_refused (v.means ps g w y) e)) })

  module _ {o : Out} (e : a ≡ Ok o) where
    parts_gave : (ps : Stxs) (g : Around) → RepP l s.top c (from_stxs ps) → RepA l s.top at g
        → Gave parts_of 0 0 l l1 s (store_of st1) (expand_all (λ x. inside (λ p. p) (expand at.entries (around g at) x)) ps (state_of s (store_of st))) o
    parts_gave ps g w y = on_done (v.means ps g w y) e

    pub application_list : {i : ℕ} → ReadyChain l st (unpaid s) i c at → length l1 ≡ length l → ReadyList l1 o.state i o.at
    unfolding unpaid
    application_list r len =
        let g = parts_gave r.parts r.within.meant r.chain r.within.known in
        record {
          sets = r.sets;
          old = r.parts;
          parts = g.value;
          shown = carry r.shown g.later.kept g.later.grows;
          chain = g.shown.rep;
          room = record { fits = omega (arith, g.later.fits, r.within.room.fits, len); small = omega (arith, r.within.room.small, len); low = omega (arith, r.within.room.low, g.later.grows) };
          free = omega (arith, g.later.fits, r.within.room.fits, len);
          few = g.shown.few;
        }

    pub application_made : {i : ℕ} {l2 : List ℕ} {q : Result Out Stop} → Lists l1 l2 o.state i o.at q → ExpandedApplication at st st1 l l2 s i c q
    unfolding expand_application
    application_made d =
        record {
          means = λ k ps g u w y.
              let t = parts_gave ps g w y in
              beyond 1 two_cells 1 1 t.later (owes_one o.state) (owes_one s) (omega arith) (omega arith) (then_ok _ t.is) (d.means (store_of st1) k ps t.value (carry u t.later.kept t.later.grows) t.shown.rep);
        }

-- ---- what is expanded next

module _ {l st : List ℕ} {o : Next} {at : Surroundings} (r : ReadyNext l st o at) where
  pub body_declared : Declared o.scope
  body_declared = r.shown.declared

  pub body_wide : held_size ≤ length st
  body_wide = r.held.wide

  pub body_ready : ReadyToExpand l st o.state o.at (further o at)
  body_ready = record { thing = r.further.object; shown = r.shown.rep; within = record { meant = r.shown.meant; known = r.shown.known; room = r.room; held = r.held } }

pub body_less : (s : State) {T : ℕ} → s.left * 32 + 2 ≡ T → s.left * 32 + 1 < T
body_less s z = omega arith

pub body_expanded : {at : Surroundings} {st st1 l l1 : List ℕ} {o : Next} {p q : Scopes} {r : Result Out Stop} → p ≡ prunable_of st → q ≡ add o.scope.0 p
    → ExpandedInside (further o at) st st1 l l1 o.state q o.at r → ExpandedNext at st st1 l l1 o r
unfolding inside
body_expanded {at} {st} {st1} {l} {l1} {o} {p} {q} {r} was wider a = record {
  means = λ k v.
      let more : q ≡ add k.scope (prunable_of st) = wider ∙ (λ i. add (v.scope i) (was i)) in
      let c : Agrees objects 1 two_cells l l1 o.state (store_of st1) (inside (λ u. q) (expand at.entries (around v.meant at) k.object) (state_of o.state (store_of st))) r =
      a.means k.object v.meant v.rep v.known in
      let d : Agrees objects 1 two_cells l l1 o.state (store_of st1) (inside (λ u. add k.scope (prunable_of st)) (expand at.entries (around v.meant at) k.object) (state_of o.state (store_of st))) r = rw more at c in
      rw v.there d;
}

pub ruleset laws = (
  application_parts,
  application_refused,
  application_list,
  application_made,
  body_declared,
  body_wide,
  body_ready,
  body_less,
  body_expanded,
)
