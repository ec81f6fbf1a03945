-- What a form leaves to be expanded in its place: one law for each way out.
use Rattle.expand.specs.declared.rewriting.Next.{Next}
use Rattle.std.specs.Prelude.{Result, Ok, Err}
use mathlib.Core.Path.{◌≡◌, sym}
use mathlib.Core.List.{List}
use Prim.Native.Nat.{ℕ, ◌≤◌}
use native.Mathlib.Omega.{arith}
use lib.ListN.{length}
use Rattle.model.specs.Objects.{Stx, add_scope}
use Rattle.model.specs.Trees.{stx}
use Rattle.model.specs.Steps as ms
use Rattle.model.specs.Steps.{after, add_to}
use Rattle.model.specs.Meanings as m
use Rattle.model.specs.Expanding as rules
use Rattle.model.specs.Expanding.{of_body}
use Rattle.scopes.specs.Sets.{Declared}
use Rattle.table.proofs.Laws.{same_trans}
use Rattle.things.specs.Rep.{Rep}
use Rattle.things.specs.Making.{Roomy}
use Rattle.things.specs.declared.Made.{Made}
use Rattle.things.proofs.Frame.{carry}
use Rattle.steps.specs.States.{Store, store_of, no_store, Held, state_of, raised_to, Room}
use Rattle.steps.specs.Agreement.{Gave, Agrees, gives, stops}
use Rattle.steps.specs.declared.State.{State}
use Rattle.steps.specs.declared.Stop.{Stop}
use Rattle.steps.specs.declared.Out.{Out}
use Rattle.steps.proofs.Laws.{then_ok, then_no, room-later, on_done, on_refused, since}
use Rattle.environment.specs.Meanings.{Extended}
use Rattle.environment.proofs.Frame.{carry_e, carry_m}
use Rattle.stops.proofs.Frame.{carry_z}
use Rattle.scoping.specs.Changing.{objects, ReadyObject, change_rule, Changes}
use Rattle.scoping.specs.Fresh.{ShownBinder}
use Rattle.scoping.specs.declared.Binder.{Binder}
use Rattle.expand.specs.Leaves.{around}
use Rattle.expand.specs.InPlace.{Further, further_rule, Named, nexts, ReadyScoped, scoped_rule, Scoped}
use Rattle.expand.specs.Cycle.{expansion, ReadyNext, ExpandedNext}
use Rattle.expand.specs.declared.Surroundings.{Surroundings}
use Rattle.table.specs.Sizes.{cell_size, node_spare}

pub by_name : {x : ℕ} {l : List ℕ} {b : Binder} {k : rules.Binder} → ShownBinder x l b k → Named b k
by_name w = record { name = w.name; scope = w.scope; declared = w.declared; small = w.small }

-- ---- the body, in a new scope

pub scoped_add_ready : {l : List ℕ} {s : State} {b : Binder} {kind thing body : ℕ} {at : Surroundings} → ReadyScoped l s b kind thing body at → ReadyObject l s body
scoped_add_ready r = record { thing = r.object; shown = r.shown_body; room = r.room; few = r.few }

pub scoped_declared : {l : List ℕ} {s : State} {b : Binder} {kind thing body : ℕ} {at : Surroundings} → ReadyScoped l s b kind thing body at → Declared b.scope
scoped_declared r = r.named.declared

module _ (at : Surroundings) (b : Binder) {l l1 : List ℕ} {s : State} {body : ℕ} {a : Result Out Stop} (v : Changes (add_scope b.scope.0 at.phase) l l1 s body a) where
  changed : {k : rules.Binder} → Named b k → (q : Store) (y : Stx) → Rep l s.top body (stx y) → Agrees objects 1 node_spare l l1 s q (change_rule (add_scope k.scope at.phase) y (state_of s q)) a
  changed n q y u = rw n.scope at (v.means q y u)

  pub scoped_refused : {r : Result Next Stop} {kind thing : ℕ} {f : Stop} → a ≡ Err f → r ≡ Err f → Scoped at l l1 s b kind thing body r
  unfolding scoped_rule add_to change_rule
  scoped_refused e same = rw same (record { means = λ q k w y g n p u c. stops _ (then_no _ (on_refused (changed n q y u) e)) })

  module _ {o : Out} (e : a ≡ Ok o) where
    added : {k : rules.Binder} → Named b k → (q : Store) (y : Stx) → Rep l s.top body (stx y) → Gave objects 1 node_spare l l1 s q (change_rule (add_scope k.scope at.phase) y (state_of s q)) o
    added n q y u = on_done (changed n q y u) e

    pub scoped_roomy : {kind thing : ℕ} → ReadyScoped l s b kind thing body at → length l1 ≡ length l → Roomy l1 o.state.top cell_size
    scoped_roomy r len =
        let g = added r.named no_store r.object r.shown_body in
        record { fits = omega (arith, g.later.fits, r.room.fits, len); small = omega (arith, r.room.small, len); low = omega (arith, r.room.low, g.later.grows) }

    pub scoped_next : {kind thing : ℕ} {l2 : List ℕ} {k : Made} {t : State} → Extended l1 l2 o.state.top b.name.0 kind thing at.meanings k.at k.top → t ≡ raised_to k.top o.state
        → Scoped at l l2 s b kind thing body (Ok (record { at = o.at; scope = b.scope; meanings = k.at; state = t }))
    unfolding scoped_rule add_to change_rule
    scoped_next {l2 = l2} {k = k} x z =
        rw z (record {
          means = λ q c w y g n p u d.
              let j = added n q y u in
              gives (record { at = o.at; scope = b.scope; meanings = k.at; state = raised_to k.top o.state }) (record {
                value = record { object = j.value; there = of_body c w (around g at); scope = c.scope };
                is = then_ok _ j.is;
                shown = record {
                  meant = record { meanings = m.extend b.name.0 w g.meanings; stops = g.stops };
                  rep = carry j.shown.rep x.kept (omega (arith, x.grows));
                  known = record {
                    meant = x.means w g.meanings n.small (carry_m p j.later.kept j.later.grows) (carry_e d.meant j.later.kept j.later.grows);
                    stopped = carry_z d.stopped (same_trans s.top o.state.top l l1 l2 j.later.grows j.later.kept x.kept) (omega (arith, j.later.grows, x.grows));
                  };
                  there = λ i. record { phase = at.phase; meanings = m.extend ((sym n.name) i) w g.meanings; stops = g.stops };
                  scope = n.scope;
                  declared = n.declared;
                  few = j.shown.few;
                };
                later = record {
                  kept = same_trans s.top o.state.top l l1 l2 j.later.grows j.later.kept x.kept;
                  grows = omega (arith, j.later.grows, x.grows);
                  fits = omega (arith, j.later.fits, x.grows);
                  spent = omega (arith, j.later.spent);
                };
              });
        })

-- ---- what is expanded next

module _ {at : Surroundings} {n v : ℕ} {l l1 : List ℕ} {s : State} {b : Store} {q : ms.Out Further} {x : Result Next Stop} (a : Agrees (nexts at) n v l l1 s b q x) where
  module _ {o : Next} (e : x ≡ Ok o) where
    pub next_less : o.state.left ≤ s.left
    next_less = omega (arith, (on_done a e).later.spent)

    pub next_ready : {st st1 : List ℕ} → Room l s → Held st s → length l1 ≡ length l → length st1 ≡ length st → ReadyNext l1 st1 o at
    next_ready r h len len2 =
        let g = on_done a e in
        record { further = g.value; shown = g.shown; room = room-later r g.later len; held = record { few = g.shown.few; wide = omega (arith, h.wide, len2) } }

pub next_goes : {at : Surroundings} {st st1 l l1 l2 : List ℕ} {s : State} {q : ms.Out Further} {x : Result Next Stop} {o : Next} {r : Result Out Stop} → Agrees (nexts at) 1 cell_size l l1 s (store_of st) q x → x ≡ Ok o
    → ExpandedNext at st st1 l1 l2 o r → Agrees objects 2 node_spare l l2 s (store_of st1) (after q (further_rule (expansion at.entries))) r
next_goes a e f = let j = on_done a e in since 2 node_spare j.later (omega arith) (omega arith) (then_ok _ j.is) (f.means j.value j.shown)

pub ruleset laws = (
  scoped_add_ready,
  scoped_declared,
  scoped_refused,
  scoped_roomy,
  scoped_next,
)
