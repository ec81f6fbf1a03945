-- Primitive 8: one law for each way through it.
use Rattle.std.specs.Prelude.{Result, Ok, Err}
use mathlib.Core.Path.{◌≡◌, refl, ◌∙◌}
use mathlib.Core.List.{List}
use Prim.Native.Nat.{ℕ, ◌+◌, ◌*◌, ◌<◌}
use native.Mathlib.Omega.{arith}
use lib.ListN.{length}
use Rattle.model.specs.Objects.{Stx, flip_scope}
use Rattle.model.specs.Meanings as m
use Rattle.model.specs.Meanings.{with_stops}
use Rattle.model.specs.Steps as ms
use Rattle.model.specs.Steps.{ok, after, flip_in}
use Rattle.model.specs.Trees.{Tree, Trees, stx}
use Rattle.model.specs.Evaluating.{Expander, argument}
use Rattle.model.specs.Expanding.{expand}
use Rattle.scopes.specs.Sets.{Declared}
use Rattle.things.specs.Rep.{Rep}
use Rattle.primitives.proofs.Choosing.{given_1, given_2}
use Rattle.steps.specs.declared.State.{State}
use Rattle.steps.specs.declared.Stop.{Stop}
use Rattle.steps.specs.declared.Out.{Out}
use Rattle.steps.specs.States.{Store, store_of, state_of}
use Rattle.steps.specs.Agreement.{Gave, Agrees, gives, stops}
use Rattle.steps.proofs.Laws.{then_ok, then_no, room-later, on_done, on_refused, since}
use Rattle.parse.specs.Shown.{trees}
use Rattle.environment.specs.declared.Place.{Place}
use Rattle.environment.specs.Places.{RepPlace, is_use_lem}
use Rattle.environment.specs.Meanings.{RepE}
use Rattle.environment.proofs.Frame.{carry_e}
use Rattle.scoping.specs.Changing.{objects, change_rule, ReadyObject, Changes}
use Rattle.applying.specs.declared.Values.{Values}
use Rattle.asking.specs.Pieces.{pieces, close_rule, opened_rule, open_spare, ReadyToOpen, Opens}
use Rattle.asking.specs.declared.Piece.{Piece}
use Rattle.asking.proofs.Pieces.{opened_split}
use Rattle.expand.specs.Evaluation.{ReadyWithin, within_of, DoesWithin}
use Rattle.expand.specs.Cycle.{expansion, ReadyToExpand, Expanded}
use Rattle.expand.specs.declared.Surroundings.{Surroundings}
use Rattle.table.specs.Sizes.{node_spare, two_cells}

flip-at : {k ph k1 ph1 i : ℕ} {l l1 : List ℕ} {s : State} {r : Result Out Stop} → k ≡ k1 → ph ≡ ph1 → Changes (flip_scope k ph) l l1 s i r → Changes (flip_scope k1 ph1) l l1 s i r
flip-at e f h = rw (e, f) at h

-- an object is a tree
as_tree : {l l1 : List ℕ} {s : State} {b : Store} {o : ms.Out Stx} {c : Result Out Stop} → Agrees objects 1 node_spare l l1 s b o c → Agrees trees 1 node_spare l l1 s b (after o (λ x. λ y. ok (stx x) y)) c
as_tree (gives o y) = gives o (record { value = stx y.value; is = then_ok _ y.is; shown = record { rep = y.shown.rep; few = y.shown.few }; later = y.later })
as_tree (stops f y) = stops f (then_no _ y)

-- where it is expanded
abbrev pub locally : ℕ → Place → ℕ → Surroundings
locally entries place z = record { entries = entries; phase = place.phase; meanings = place.meanings; stops = z }

-- what a place in a macro's use says
record Used (l : List ℕ) (top : ℕ) (place : Place) (k : ℕ) (here : m.Surroundings) : Type 0 where
  intro : place.intro.0 ≡ k
  declared : Declared place.intro
  phase : place.phase ≡ here.phase
  known : RepE l top place.meanings here.meanings

use_at_lem : {l : List ℕ} {top : ℕ} {place : Place} {k : ℕ} {here : m.Surroundings} → RepPlace l top place (m.macro_use k here) → Used l top place k here
use_at_lem (is_use_lem d e z) = record { intro = refl; declared = d; phase = refl; known = e }

within_split : (other : Expander) (k : ℕ) (here : m.Surroundings) (ts : Trees) (y : ms.State)
    → within_of other (m.macro_use k here) ts y ≡ after (opened_rule k here (argument ts 0) (argument ts 1) y) (close_rule other k here)
unfolding within_of
within_split other k here ts y = opened_split other k here (argument ts 0) (argument ts 1) y

module _ {l st : List ℕ} {v : Values} {place : Place} (r : ReadyWithin l st v place) where
  pub open_ready : ReadyToOpen l st v.state v.x v.y place
  open_ready =
      record {
        first = argument r.values 0;
        second = argument r.values 1;
        shown = given_1 r.given (omega (arith, r.two));
        shown-second = given_2 r.given r.two;
        intro = r.intro;
        here = r.here;
        used = r.used;
        room = r.room;
        held = r.held;
      }

  pub within-declared : Declared place.intro
  within-declared = (use_at_lem r.used).declared

module _ {entries : ℕ} {place : Place} {st l l1 : List ℕ} {v : Values} {b : Result Piece Stop} (d : Opens place st l l1 v.state v.x v.y b) where
  pub within_unopened : {r : Result Out Stop} {f : Stop} → b ≡ Err f → r ≡ Err f → DoesWithin entries place st st l l1 v r
  within_unopened e same =
      rw same (record {
        means = λ ts k here g n w.
            stops _ (within_split (expansion entries) k here ts (state_of v.state (store_of st))
            ∙ then_no _ (on_refused (d.means (argument ts 0) (argument ts 1) k here (given_1 g (omega (arith, n))) (given_2 g n) w) e));
      })

-- what was opened, and what it expands to
module _ {place : Place} {st l l1 : List ℕ} {s : State} {i j : ℕ} {b : Result Piece Stop} (d : Opens place st l l1 s i j b) {o : Piece} (e : b ≡ Ok o) where
  opened-to : (t u : Tree) (k : ℕ) (here : m.Surroundings) → Rep l s.top i t → Rep l s.top j u → RepPlace l s.top place (m.macro_use k here)
      → Gave pieces 2 open_spare l l1 s (store_of st) (opened_rule k here t u (state_of s (store_of st))) o
  opened-to t u k here p q w = on_done (d.means t u k here p q w) e

  module _ {entries : ℕ} {st1 l2 : List ℕ} {a : Result Out Stop} (c : Expanded (locally entries place o.stops) st st1 l1 l2 o.state o.at a) where
    same-phase : {ph1 ph2 : ℕ} (e1 : m.Env) (zs : List ℕ) (y : Stx) → ph1 ≡ ph2
        → Agrees objects 1 two_cells l1 l2 o.state (store_of st1) (expand entries (record { phase = ph1; meanings = e1; stops = zs }) y (state_of o.state (store_of st))) a
        → Agrees objects 1 two_cells l1 l2 o.state (store_of st1) (expand entries (record { phase = ph2; meanings = e1; stops = zs }) y (state_of o.state (store_of st))) a
    same-phase e1 zs y z h = rw z at h

    expanded : (t u : Tree) (k : ℕ) (here : m.Surroundings) (p : Rep l s.top i t) (q : Rep l s.top j u) (w : RepPlace l s.top place (m.macro_use k here))
        → Agrees objects 1 two_cells l1 l2 o.state (store_of st1) (expand entries (with_stops (opened-to t u k here p q w).value.names here) (opened-to t u k here p q w).value.object (state_of o.state (store_of st))) a
    expanded t u k here p q w =
        let g = opened-to t u k here p q w in
        let y = use_at_lem w in
        same-phase here.meanings g.value.names g.value.object y.phase
        (c.means g.value.object (record { meanings = here.meanings; stops = g.value.names }) g.shown.rep (record { meant = carry_e y.known g.later.kept g.later.grows; stopped = g.shown.stops }))

module _ {place : Place} {st l l1 : List ℕ} {b : Result Piece Stop} {o : Piece} (e : b ≡ Ok o) where
  pub within-expand : {v : Values} {entries : ℕ} → Opens place st l l1 v.state v.x v.y b → ReadyWithin l st v place → length l1 ≡ length l → ReadyToExpand l1 st o.state o.at (locally entries place o.stops)
  within-expand d r len =
      let y = open_ready r in
      let g = opened-to d e y.first y.second y.intro y.here y.shown y.shown-second y.used in
      let w = use_at_lem r.used in
      record {
        thing = g.value.object;
        shown = g.shown.rep;
        within = record {
          meant = record { meanings = r.here.meanings; stops = g.value.names };
          known = record { meant = carry_e w.known g.later.kept g.later.grows; stopped = g.shown.stops };
          room = room-later r.room g.later len;
          held = record { few = g.shown.few; wide = r.held.wide };
        };
      }

  pub within_less : {v : Values} {T : ℕ} → Opens place st l l1 v.state v.x v.y b → ReadyWithin l st v place → v.state.left * 32 + 1 ≡ T → o.state.left * 32 < T
  within_less d r z = let y = open_ready r in omega (arith, (opened-to d e y.first y.second y.intro y.here y.shown y.shown-second y.used).later.spent)

  module _ {entries : ℕ} {st1 l2 : List ℕ} {a : Result Out Stop} (c : Expanded (locally entries place o.stops) st st1 l1 l2 o.state o.at a) where
    pub within-refused : {r : Result Out Stop} {v : Values} {f : Stop} → Opens place st l l1 v.state v.x v.y b → a ≡ Err f → r ≡ Err f → DoesWithin entries place st st1 l l2 v r
    unfolding close_rule
    within-refused {v = v} d z same =
        rw same (record {
          means = λ ts k here g n w.
              let p = given_1 g (omega (arith, n)) in
              let q = given_2 g n in
              let j = opened-to d e (argument ts 0) (argument ts 1) k here p q w in
              stops _ (within_split (expansion entries) k here ts (state_of v.state (store_of st)) ∙ then_ok _ j.is ∙ then_no _ (on_refused (expanded d e c (argument ts 0) (argument ts 1) k here p q w) z));
        })

    module _ {x : Out} (z : a ≡ Ok x) where
      pub within-flip : {v : Values} → Opens place st l l1 v.state v.x v.y b → ReadyWithin l st v place → length l1 ≡ length l → length l2 ≡ length l1 → ReadyObject l2 x.state x.at
      within-flip d r len len2 =
          let y = open_ready r in
          let first = opened-to d e y.first y.second y.intro y.here y.shown y.shown-second y.used in
          let g = on_done (expanded d e c y.first y.second y.intro y.here y.shown y.shown-second y.used) z in
          record { thing = g.value; shown = g.shown.rep; room = room-later (room-later r.room first.later len) g.later len2; few = g.shown.few }

      pub within-done : {v : Values} {l3 : List ℕ} {b3 : Result Out Stop} → Opens place st l l1 v.state v.x v.y b → Changes (flip_scope place.intro.0 place.phase) l2 l3 x.state x.at b3 → DoesWithin entries place st st1 l l3 v b3
      unfolding close_rule flip_in change_rule
      within-done {v} {l3} {b3} d f =
          record {
            means = λ ts k here g n w.
                let p = given_1 g (omega (arith, n)) in
                let q = given_2 g n in
                let j = opened-to d e (argument ts 0) (argument ts 1) k here p q w in
                let y = on_done (expanded d e c (argument ts 0) (argument ts 1) k here p q w) z in
                let u = use_at_lem w in
                since 0 0 j.later (omega arith) (omega arith) (within_split (expansion entries) k here ts (state_of v.state (store_of st)) ∙ then_ok _ j.is)
                (since 0 0 y.later (omega arith) (omega arith) (then_ok _ y.is)
                (as_tree ((flip-at u.intro u.phase f).means (store_of st1) y.value y.shown.rep)));
          }

pub ruleset laws = (open_ready, within-declared, within_unopened, within-expand, within_less, within-refused, within-flip, within-done)
