-- (let-syntax id rhs body): one law for each way through it.
use Rattle.expand.specs.declared.rewriting.Next.{Next}
use Rattle.std.specs.Prelude.{Result, Ok, Err, Option, Some, None}
use mathlib.Core.Path.{◌≡◌, sym, ◌∙◌}
use mathlib.Core.List.{List, []}
use mathlib.Core.Bool.{Bool, true, false}
use Prim.Native.Nat.{ℕ, ◌+◌, ◌*◌, ◌^◌, ◌≤◌, ◌<◌}
use native.Mathlib.Omega.{arith}
use borrow.Author.Tests.{le-leb, lt-leb}
use lib.ListN.{length}
use Rattle.model.specs.Limits.{last_phase}
use Rattle.model.specs.Refusals as ref
use Rattle.model.specs.Objects.{Stx}
use Rattle.model.specs.Trees.{stx, from_stxs}
use Rattle.model.specs.Scopes.{Scopes, no_scopes}
use Rattle.model.specs.Steps.{after, parts3, identifier, inside}
use Rattle.model.specs.Meanings.{core_only}
use Rattle.model.specs.Expanding as rules
use Rattle.model.specs.Expanding.{of_right_hand_side, expand_let_syntax, expand}
use Rattle.refusals.specs.declared.Refusal.TheVariants.{NoRule, NoPhase}
use Rattle.things.specs.Rep.{Rep}
use Rattle.things.specs.Measuring.{Seen, SeenP}
use Rattle.things.proofs.Frame.{carry}
use Rattle.steps.specs.States.{store_of, stop_of, state_of}
use Rattle.steps.specs.Agreement.{Gave, Agrees, stops}
use Rattle.steps.specs.declared.State.{State}
use Rattle.steps.specs.declared.Stop.{Stop}
use Rattle.steps.specs.declared.Out.{Out}
use Rattle.steps.proofs.Laws.{then_ok, then_no, unless-ok, unless-no, later_refl, on_done, on_refused, since}
use Rattle.parse.specs.Parsing.{unpaid}
use Rattle.forms.specs.Shapes.{Triple, Identifies}
use Rattle.forms.proofs.Shapes.{on_three, on_not_three, not-parts3, not-identifier, is-identifier}
use Rattle.stops.specs.Stops.{no-stops}
use Rattle.environment.specs.Meanings.{is-core}
use Rattle.scoping.specs.Changing.{objects}
use Rattle.scoping.specs.Fresh.{ReadyBinder, BindsFresh}
use Rattle.scoping.proofs.Fresh.{bound_to}
use Rattle.scoping.specs.declared.Binder.{Binder}
use Rattle.expand.specs.Leaves.{Around, around, RepA}
use Rattle.expand.specs.Values.{evaluation}
use Rattle.expand.specs.InPlace.{nexts, ReadyDefined, defined_rule, Defined, rhs_rule, binding_rule}
use Rattle.expand.specs.Cycle.{expansion, ReadyToExpand, ReadyLet, ReadyNext, ReadyBinding, ReadyRhs, ExpandedInside, ExpandedNext, ExpandedLetSyntax, OnwardBinding, OnwardRhs}
use Rattle.expand.specs.declared.Surroundings.{Surroundings}
use Rattle.expand.proofs.Agreeing.{beyond}
use Rattle.expand.proofs.Leaves.{owes_none, owes_one}
use Rattle.expand.proofs.InPlace.{next_less, next_ready, next_goes}
use Rattle.expand.proofs.Rules.{binding_split}
use Rattle.table.specs.Sizes.{cell_size, two_cells}
use Rattle.expand.proofs.Surrounding.{carry_a, within-later, within-paid}
use Rattle.expand.proofs.InPlace.{by_name}

-- ---- let-syntax

module _ {st l : List ℕ} (s : State) {tail : ℕ} {at : Surroundings} where
  pub let_seen : ReadyLet l st (unpaid s) tail at → SeenP l tail
  unfolding unpaid
  let_seen r = record { top = s.top; thing = from_stxs r.parts; shown = r.shown; inside = omega (arith, r.within.room.fits); small = r.within.room.small }

  module _ {d : Option (ℕ × ℕ × ℕ)} (h : Triple l tail d) where
    pub let_shape : {r : Result Out Stop} → d ≡ None → r ≡ Err (stop_of NoRule s) → ExpandedLetSyntax at st st l l s tail r
    unfolding expand_let_syntax
    let_shape e same = rw same (record { means = λ ps g w z. stops _ (not-parts3 ps _ (state_of s (store_of st)) (on_not_three (h.means s.top ps w) e)) })

    module _ {a b c : ℕ} (e : d ≡ Some (a, b, c)) where
      pub let_id_seen : ReadyLet l st (unpaid s) tail at → Seen l a
      unfolding unpaid
      let_id_seen r =
          let q = on_three (h.means s.top r.parts r.shown) e in
          record { top = s.top; thing = stx q.first; shown = q.shown; inside = omega (arith, r.within.room.fits); small = r.within.room.small }

      module _ {z : Bool} (f : Identifies l a z) where
        pub let_no_id : {r : Result Out Stop} → z ≡ false → r ≡ Err (stop_of NoRule s) → ExpandedLetSyntax at st st l l s tail r
        unfolding expand_let_syntax parts3
        let_no_id t same =
            rw same (record {
              means = λ ps g w k.
                  let q = on_three (h.means s.top ps w) e in
                  rw q.is (stops _ (not-identifier q.first _ (state_of s (store_of st)) (sym (f.means s.top q.first q.shown) ∙ t)));
            })

        module _ (t : z ≡ true) where
          pub let_binding_ready : ReadyLet l st (unpaid s) tail at → ReadyBinding l st s a b c at
          unfolding unpaid
          let_binding_ready r =
              let q = on_three (h.means s.top r.parts r.shown) e in
              let n = is-identifier q.first (sym (f.means s.top q.first q.shown) ∙ t) in
              record { binder = n.sets; symb = n.symb; thing = q.second; object = q.third; shown = rw n.is at q.shown; shown_right = q.shown-second; shown_body = q.shown-third; within = within-paid s r.within }

          module _ {st1 l1 : List ℕ} {x : Result Next Stop} (v : OnwardBinding at st st1 l l1 s a b c x) where
            let_inside : (r : ReadyBinding l st s a b c at) → Agrees (nexts at) 1 cell_size l l1 s (store_of st1) (binding_rule (expansion at.entries) (evaluation at.entries) at.entries (around r.within.meant at) r.binder r.symb r.thing r.object (state_of s (store_of st))) x
            let_inside r = v.means r.binder r.symb r.thing r.object r.within.meant r.shown r.shown_right r.shown_body r.within.known

            pub let_unbound : {r : Result Out Stop} {q : Stop} → x ≡ Err q → r ≡ Err q → ExpandedLetSyntax at st st1 l l1 s tail r
            unfolding expand_let_syntax parts3 identifier
            let_unbound y same =
                rw same (record {
                  means = λ ps g w k.
                      let q = on_three (h.means s.top ps w) e in
                      let n = is-identifier q.first (sym (f.means s.top q.first q.shown) ∙ t) in
                      rw (q.is, n.is) (stops _ (binding_split (expansion at.entries) (evaluation at.entries) at.entries (around g at) (state_of s (store_of st)) n.sets n.symb q.second q.third
                      ∙ then_no _ (on_refused (v.means n.sets n.symb q.second q.third g (rw n.is at q.shown) q.shown-second q.shown-third k) y)));
                })

            module _ {o : Next} (d1 : x ≡ Ok o) where
              pub let_next_ready : ReadyLet l st (unpaid s) tail at → length l1 ≡ length l → length st1 ≡ length st → ReadyNext l1 st1 o at
              let_next_ready r len len2 = let q = let_binding_ready r in next_ready (let_inside q) d1 q.within.room q.within.held len len2

              pub let_less : {T : ℕ} → ReadyLet l st (unpaid s) tail at → s.left * 32 + 18 ≡ T → o.state.left * 32 + 2 < T
              let_less r z = omega (arith, next_less (let_inside (let_binding_ready r)) d1)

              pub let_expanded : {st2 l2 : List ℕ} {r : Result Out Stop} → ExpandedNext at st1 st2 l1 l2 o r → ExpandedLetSyntax at st st2 l l2 s tail r
              unfolding expand_let_syntax parts3 identifier
              let_expanded p =
                  record {
                    means = λ ps g w k.
                        let q = on_three (h.means s.top ps w) e in
                        let n = is-identifier q.first (sym (f.means s.top q.first q.shown) ∙ t) in
                        let y = next_goes (v.means n.sets n.symb q.second q.third g (rw n.is at q.shown) q.shown-second q.shown-third k) d1 p in
                        rw (q.is, n.is) (beyond 1 two_cells 0 1 (later_refl l s) (owes_none s) (owes_one s) (omega arith) (omega arith) (binding_split (expansion at.entries) (evaluation at.entries) at.entries (around g at) (state_of s (store_of st)) n.sets n.symb q.second q.third) y);
                  }

-- ---- binding

module _ {st l : List ℕ} {s : State} {id right body : ℕ} {at : Surroundings} (r : ReadyBinding l st s id right body at) where
  pub binding_binder_ready : ReadyBinder l st s id
  binding_binder_ready = record { sets = r.binder; symb = r.symb; shown = r.shown; room = r.within.room; held = r.within.held }

  module _ {st1 l1 : List ℕ} {z : Result Binder Stop} (v : BindsFresh at.phase st st1 l l1 s id z) where
    pub binding_refused : {r : Result Next Stop} {f : Stop} → z ≡ Err f → r ≡ Err f → OnwardBinding at st st1 l l1 s id right body r
    unfolding binding_rule
    binding_refused e same = rw same (record { means = λ c x u y g a b w k. stops _ (then_no _ (on_refused (v.means c x a) e)) })

    module _ {o : Binder} (e : z ≡ Ok o) where
      pub binding_less : {T : ℕ} → s.left * 32 + 17 ≡ T → o.state.left * 32 + 18 < T
      binding_less t = omega (arith, (bound_to v e r.binder r.symb r.shown).later.spent)

      pub binding_rhs_ready : length l1 ≡ length l → length st1 ≡ length st → ReadyRhs l1 st1 o right body at
      binding_rhs_ready len len2 =
          let g = bound_to v e r.binder r.symb r.shown in
          record {
            binder = g.value;
            thing = r.thing;
            object = r.object;
            named = by_name g.shown;
            shown = carry r.shown_right g.later.kept g.later.grows;
            shown_body = carry r.shown_body g.later.kept g.later.grows;
            within = within-later r.within g.later g.shown.few len len2;
          }

      pub binding_rhs : {st2 l2 : List ℕ} {q : Result Next Stop} → OnwardRhs at st1 st2 l1 l2 o right body q → OnwardBinding at st st2 l l2 s id right body q
      unfolding binding_rule
      binding_rhs f =
          record {
            means = λ c x u y g a b w k.
                let j = bound_to v e c x a in
                since 1 cell_size j.later (omega arith) (omega arith) (then_ok _ j.is)
                (f.means j.value u y g (by_name j.shown) (carry b j.later.kept j.later.grows) (carry w j.later.kept j.later.grows) (carry_a k j.later.kept j.later.grows));
          }

-- ---- the right-hand side

pub rhs_up : (at : Surroundings) → at.phase < 2 → at.phase + 1 < 2 ^ 32
rhs_up at h = omega arith

pub rhs_phase : {st l : List ℕ} {b : Binder} {right body : ℕ} {at : Surroundings} {f : Stop} → 2 ≤ at.phase → f ≡ stop_of NoPhase b.state → OnwardRhs at st st l l b right body (Err f)
unfolding rhs_rule last_phase
rhs_phase {st} {b = b} {at = at} h same =
    rw same (record { means = λ n u y g d w z k. stops _ (then_no _ (unless-no ref.no_phase (state_of b.state (store_of st)) (lt-leb (at.phase + 1) 2 (omega arith)))) })

-- of the right-hand side
abbrev above_of : Surroundings → Surroundings
above_of at = record { entries = at.entries; phase = at.phase + 1; meanings = 0; stops = 0 }

abbrev bare : Around
bare = record { meanings = core_only; stops = [] }

bare_known : {l : List ℕ} {top : ℕ} (at : Surroundings) → RepA l top (above_of at) bare
bare_known at = record { meant = is-core; stopped = no-stops }

module _ {st l : List ℕ} {s : State} {right : ℕ} (at : Surroundings) (h : at.phase < 2) {p : Scopes} (f : p ≡ no_scopes) {st1 l1 : List ℕ} {a : Result Out Stop} (v : ExpandedInside (above_of at) st st1 l l1 s p right a) where
  above : (g : Around) (u : Stx) → Rep l s.top right (stx u) → Agrees objects 1 two_cells l l1 s (store_of st1) (inside (λ q. no_scopes) (expand at.entries (of_right_hand_side (around g at)) u) (state_of s (store_of st))) a
  above g u w = rw f at (v.means u bare w (bare_known at))

  starts : (g : Around) (k : rules.Binder) (u y : Stx) → rhs_rule (expansion at.entries) (evaluation at.entries) at.entries (around g at) k u y (state_of s (store_of st))
      ≡ after (inside (λ q. no_scopes) (expand at.entries (of_right_hand_side (around g at)) u) (state_of s (store_of st))) (λ t. defined_rule (evaluation at.entries) at.entries (around g at) k t y)
  unfolding rhs_rule last_phase
  starts g k u y = then_ok _ (unless-ok ref.no_phase (state_of s (store_of st)) (le-leb (at.phase + 1) 2 (omega arith)))

  right_to : {o : Out} → a ≡ Ok o → (g : Around) (u : Stx) → Rep l s.top right (stx u) → Gave objects 1 two_cells l l1 s (store_of st1) (inside (λ q. no_scopes) (expand at.entries (of_right_hand_side (around g at)) u) (state_of s (store_of st))) o
  right_to e g u w = on_done (above g u w) e

module _ {st l : List ℕ} {b : Binder} {right body : ℕ} {at : Surroundings} (h : at.phase < 2) where
  pub rhs_expand_ready : ReadyRhs l st b right body at → ReadyToExpand l st b.state right (above_of at)
  rhs_expand_ready r = record { thing = r.thing; shown = r.shown; within = record { meant = bare; known = bare_known at; room = r.within.room; held = r.within.held } }

  module _ {p : Scopes} (f : p ≡ no_scopes) {st1 l1 : List ℕ} {a : Result Out Stop} (v : ExpandedInside (above_of at) st st1 l l1 b.state p right a) where
    pub rhs_refused : {r : Result Next Stop} {q : Stop} → a ≡ Err q → r ≡ Err q → OnwardRhs at st st1 l l1 b right body r
    rhs_refused e same = rw same (record { means = λ n u y g d w z k. stops _ (starts at h f v g n u y ∙ then_no _ (on_refused (above at h f v g u w) e)) })

    module _ {o : Out} (e : a ≡ Ok o) where
      pub rhs_defined_ready : ReadyRhs l st b right body at → length l1 ≡ length l → length st1 ≡ length st → ReadyDefined l1 st1 o.state b o.at body at
      unfolding last_phase
      rhs_defined_ready r len len2 =
          let g = right_to at h f v e r.within.meant r.thing r.shown in
          record {
            binder = r.binder;
            thing = g.value;
            object = r.object;
            named = r.named;
            shown = g.shown.rep;
            shown_body = carry r.shown_body g.later.kept g.later.grows;
            within = within-later r.within g.later g.shown.few len len2;
            low = omega arith;
          }

      pub rhs_less : {T : ℕ} → ReadyRhs l st b right body at → b.state.left * 32 + 18 ≡ T → o.state.left * 32 + 2 < T
      rhs_less r z = omega (arith, (right_to at h f v e r.within.meant r.thing r.shown).later.spent)

      pub rhs_defined : {st2 l2 : List ℕ} {q : Result Next Stop} → Defined at st1 st2 l1 l2 o.state b o.at body q → OnwardRhs at st st2 l l2 b right body q
      rhs_defined c =
          record {
            means = λ n u y g d w z k.
                let j = right_to at h f v e g u w in
                since 1 cell_size j.later (omega arith) (omega arith) (starts at h f v g n u y ∙ then_ok _ j.is)
                (c.means n j.value y g d j.shown.rep (carry z j.later.kept j.later.grows) (carry_a k j.later.kept j.later.grows));
          }

pub ruleset laws = (
  let_seen,
  let_shape,
  let_id_seen,
  let_no_id,
  let_binding_ready,
  let_unbound,
  let_next_ready,
  let_less,
  let_expanded,
  binding_binder_ready,
  binding_refused,
  binding_less,
  binding_rhs_ready,
  binding_rhs,
  rhs_phase,
  rhs_up,
  rhs_expand_ready,
  rhs_refused,
  rhs_defined_ready,
  rhs_less,
  rhs_defined,
)
