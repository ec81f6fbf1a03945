-- (lambda id body): one law for each way through it.
use Rattle.expand.specs.declared.rewriting.Next.{Next}
use Rattle.std.specs.Prelude.{Result, Ok, Err, Option, Some, None}
use mathlib.Core.Path.{◌≡◌, refl, sym, ◌∙◌}
use mathlib.Core.List.{List}
use mathlib.Core.Bool.{Bool, true, false}
use Prim.Native.Nat.{ℕ, ◌+◌, ◌*◌, ◌<◌}
use native.Mathlib.Omega.{arith}
use lib.ListN.{length}
use Rattle.model.specs.Objects.{symbol, Stx, atom, cons}
use Rattle.model.specs.Trees.{stx, from_stxs}
use Rattle.model.specs.Steps.{after, parts2, identifier}
use Rattle.model.specs.Meanings.{variable}
use Rattle.model.specs.Expanding as rules
use Rattle.model.specs.Expanding.{expand_lambda}
use Rattle.refusals.specs.declared.Refusal.TheVariants.{NoRule}
use Rattle.things.specs.Rep.{Rep}
use Rattle.things.specs.Measuring.{Seen, SeenP}
use Rattle.things.proofs.Frame.{carry}
use Rattle.steps.specs.States.{store_of, stop_of, state_of}
use Rattle.steps.specs.Agreement.{Gave, Agrees, stops}
use Rattle.steps.specs.declared.State.{State}
use Rattle.steps.specs.declared.Stop.{Stop}
use Rattle.steps.specs.declared.Out.{Out}
use Rattle.steps.proofs.Laws.{then_ok, then_no, room-later, on_done, on_refused}
use Rattle.parse.specs.Parsing.{unpaid}
use Rattle.forms.specs.Shapes.{Double, Identifies}
use Rattle.forms.proofs.Shapes.{on_two, on_not_two, not-parts2, not-identifier, is-identifier}
use Rattle.environment.specs.Meanings.{meant-variable}
use Rattle.scoping.specs.Changing.{objects}
use Rattle.scoping.specs.Fresh.{ShownBinder, ReadyBinder, BindsFresh}
use Rattle.scoping.proofs.Fresh.{bound_to}
use Rattle.scoping.specs.declared.Binder.{Binder}
use Rattle.expand.specs.Making.{ReadyThree, ThreeLists}
use Rattle.expand.specs.Leaves.{Around, around, RepA}
use Rattle.expand.specs.Values.{evaluation}
use Rattle.expand.specs.InPlace.{further_rule, nexts, ReadyScoped, scoped_rule, Scoped}
use Rattle.expand.specs.Cycle.{expansion, ReadyForm, ReadyFunction, ReadyAbstraction, ReadyNext, abstraction_rule, ExpandedNext, ExpandedLambda, ExpandedFunction, ExpandedAbstraction}
use Rattle.expand.specs.declared.Surroundings.{Surroundings}
use Rattle.expand.proofs.Agreeing.{beyond}
use Rattle.expand.proofs.Leaves.{owes_one, owes_two}
use Rattle.expand.proofs.InPlace.{next_less, next_ready, next_goes}
use Rattle.expand.proofs.Rules.{function_split}
use Rattle.table.specs.Sizes.{cell_size, two_cells, node_spare, triple_spare}
use Rattle.expand.proofs.Surrounding.{carry_a, within-later, within-paid}
use Rattle.expand.proofs.InPlace.{by_name}

-- ---- lambda

module _ {st l : List ℕ} (s : State) {i head tail : ℕ} {at : Surroundings} where
  pub lambda-seen : ReadyForm l st (unpaid s) i head tail at → SeenP l tail
  unfolding unpaid
  lambda-seen r = record { top = s.top; thing = from_stxs r.others; shown = r.shown-others; inside = omega (arith, r.within.room.fits); small = r.within.room.small }

  module _ {d : Option (ℕ × ℕ)} (h : Double l tail d) where
    pub lambda_shape : {r : Result Out Stop} → d ≡ None → r ≡ Err (stop_of NoRule s) → ExpandedLambda at st st l l s i head tail r
    unfolding expand_lambda
    lambda_shape e same = rw same (record { means = λ k y ps g u v w z. stops _ (not-parts2 ps _ (state_of s (store_of st)) (on_not_two (h.means s.top ps w) e)) })

    module _ {a b : ℕ} (e : d ≡ Some (a, b)) where
      pub lambda_id_seen : ReadyForm l st (unpaid s) i head tail at → Seen l a
      unfolding unpaid
      lambda_id_seen r =
          let q = on_two (h.means s.top r.others r.shown-others) e in
          record { top = s.top; thing = stx q.first; shown = q.shown; inside = omega (arith, r.within.room.fits); small = r.within.room.small }

      module _ {z : Bool} (f : Identifies l a z) where
        pub lambda_no_id : {r : Result Out Stop} → z ≡ false → r ≡ Err (stop_of NoRule s) → ExpandedLambda at st st l l s i head tail r
        unfolding expand_lambda parts2
        lambda_no_id t same =
            rw same (record {
              means = λ k y ps g u v w c.
                  let q = on_two (h.means s.top ps w) e in
                  rw q.is (stops _ (not-identifier q.first _ (state_of s (store_of st)) (sym (f.means s.top q.first q.shown) ∙ t)));
            })

        module _ (t : z ≡ true) where
          pub lambda_function_ready : ReadyForm l st (unpaid s) i head tail at → ReadyFunction l st (unpaid s) i head a b at
          lambda_function_ready r =
              let q = on_two (h.means (unpaid s).top r.others r.shown-others) e in
              let n = is-identifier q.first (sym (f.means (unpaid s).top q.first q.shown) ∙ t) in
              record {
                sets = r.sets;
                old = cons r.first r.others;
                first = r.first;
                binder = n.sets;
                symb = n.symb;
                thing = q.second;
                shown = r.shown;
                shown-first = r.shown-first;
                shown-id = rw n.is at q.shown;
                shown_body = q.shown-second;
                within = r.within;
              }

          pub lambda_function : {st1 l1 : List ℕ} {r : Result Out Stop} → ExpandedFunction at st st1 l l1 s i head a b r → ExpandedLambda at st st1 l l1 s i head tail r
          unfolding expand_lambda parts2 identifier
          lambda_function p =
              record {
                means = λ k y ps g u v w c.
                    let q = on_two (h.means s.top ps w) e in
                    let n = is-identifier q.first (sym (f.means s.top q.first q.shown) ∙ t) in
                    rw (q.is, n.is) (p.means k (cons y ps) y n.sets n.symb q.second g u v (rw n.is at q.shown) q.shown-second c);
              }

-- ---- function

module _ {st l : List ℕ} (s : State) {i head id body : ℕ} {at : Surroundings} (r : ReadyFunction l st (unpaid s) i head id body at) where
  pub function_binder_ready : ReadyBinder l st s id
  unfolding unpaid
  function_binder_ready = let w = within-paid s r.within in record { sets = r.binder; symb = r.symb; shown = r.shown-id; room = w.room; held = w.held }

  module _ {st1 l1 : List ℕ} {z : Result Binder Stop} (v : BindsFresh at.phase st st1 l l1 s id z) where
    pub function_refused : {r : Result Out Stop} {f : Stop} → z ≡ Err f → r ≡ Err f → ExpandedFunction at st st1 l l1 s i head id body r
    function_refused e same =
        rw same (record { means = λ k qs h c x y g u w a b t. stops _ (function_split (expansion at.entries) (evaluation at.entries) at.entries (around g at) (state_of s (store_of st)) k h c x y ∙ then_no _ (on_refused (v.means c x a) e)) })

    module _ {o : Binder} (e : z ≡ Ok o) where
      pub function_less : {T : ℕ} → s.left * 32 + 17 ≡ T → o.state.left * 32 + 16 < T
      unfolding unpaid
      function_less t = omega (arith, (bound_to v e r.binder r.symb r.shown-id).later.spent)

      pub function_abstraction_ready : length l1 ≡ length l → length st1 ≡ length st → ReadyAbstraction l1 st1 o i head body at
      unfolding unpaid
      function_abstraction_ready len len2 =
          let g = bound_to v e r.binder r.symb r.shown-id in
          record {
            sets = r.sets;
            old = r.old;
            first = r.first;
            binder = g.value;
            symb = r.symb;
            thing = r.thing;
            shown = carry r.shown g.later.kept g.later.grows;
            shown-first = carry r.shown-first g.later.kept g.later.grows;
            shown-binder = g.shown;
            shown_body = carry r.shown_body g.later.kept g.later.grows;
            within = within-later (within-paid s r.within) g.later g.shown.few len len2;
            free = omega (arith, g.later.fits, r.within.room.fits, len);
          }

      pub function_abstraction : {st2 l2 : List ℕ} {q : Result Out Stop} → ExpandedAbstraction at st1 st2 l1 l2 o i head body q → ExpandedFunction at st st2 l l2 s i head id body q
      function_abstraction f =
          record {
            means = λ k qs h c x y g u w a b t.
                let j = bound_to v e c x a in
                beyond 1 two_cells 2 1 j.later (owes_two o.state) (owes_one s) (omega arith) (omega arith)
                (function_split (expansion at.entries) (evaluation at.entries) at.entries (around g at) (state_of s (store_of st)) k h c x y ∙ then_ok _ j.is)
                (f.means k qs h j.value x y g (carry u j.later.kept j.later.grows) (carry w j.later.kept j.later.grows) j.shown (carry b j.later.kept j.later.grows) (carry_a t j.later.kept j.later.grows));
          }

-- ---- abstraction

pub abstraction_scoped_ready : {l st : List ℕ} {b : Binder} {i head body : ℕ} {at : Surroundings} → ReadyAbstraction l st b i head body at → ReadyScoped l b.state b 0 b.at body at
abstraction_scoped_ready r =
    record {
      binder = r.binder;
      meaning = variable r.binder.sets r.symb;
      object = r.thing;
      meant = r.within.meant;
      named = by_name r.shown-binder;
      shown = meant-variable r.shown-binder.rep;
      shown_body = r.shown_body;
      known = r.within.known;
      room = r.within.room;
      few = r.within.held.few;
    }

module _ {at : Surroundings} {l l1 : List ℕ} {b : Binder} {body : ℕ} {x : Result Next Stop} (v : Scoped at l l1 b.state b 0 b.at body x) where
  in_scope_lem : (st : List ℕ) (k : rules.Binder) (n : ℕ) (y : Stx) (g : Around) → ShownBinder n l b k → Rep l b.state.top body (stx y) → RepA l b.state.top at g
      → Agrees (nexts at) 1 cell_size l l1 b.state (store_of st) (scoped_rule (around g at) k (variable k.sets n) y (state_of b.state (store_of st))) x
  in_scope_lem st k n y g p q t = v.means (store_of st) k (variable k.sets n) y g (by_name p) (meant-variable p.rep) q t

  pub abstraction_unscoped : {r : Result Out Stop} {st : List ℕ} {i head : ℕ} {f : Stop} → x ≡ Err f → r ≡ Err f → ExpandedAbstraction at st st l l1 b i head body r
  unfolding abstraction_rule
  abstraction_unscoped {st = st} e same = rw same (record { means = λ c qs h k n y g u w p q t. stops _ (then_no _ (then_no _ (on_refused (in_scope_lem st k n y g p q t) e))) })

  module _ {z : Next} (i : x ≡ Ok z) where
    module _ {st : List ℕ} {i1 head : ℕ} (r : ReadyAbstraction l st b i1 head body at) where
      pub abstraction_next_ready : length l1 ≡ length l → ReadyNext l1 st z at
      abstraction_next_ready len = next_ready (in_scope_lem st r.binder r.symb r.thing r.within.meant r.shown-binder r.shown_body r.within.known) i r.within.room r.within.held len refl

      pub abstraction_less : {T : ℕ} → b.state.left * 32 + 16 ≡ T → z.state.left * 32 + 2 < T
      abstraction_less t = omega (arith, next_less (in_scope_lem st r.binder r.symb r.thing r.within.meant r.shown-binder r.shown_body r.within.known) i)

    module _ {st st1 l2 : List ℕ} {a : Result Out Stop} (w : ExpandedNext at st st1 l1 l2 z a) where
      abstraction_goes : (k : rules.Binder) (n : ℕ) (y : Stx) (g : Around) → ShownBinder n l b k → Rep l b.state.top body (stx y) → RepA l b.state.top at g
          → Agrees objects 2 node_spare l l2 b.state (store_of st1) (after (scoped_rule (around g at) k (variable k.sets n) y (state_of b.state (store_of st))) (further_rule (expansion at.entries))) a
      abstraction_goes k n y g p q t = next_goes (in_scope_lem st k n y g p q t) i w

      pub abstraction_refused : {r : Result Out Stop} {i1 head : ℕ} {f : Stop} → a ≡ Err f → r ≡ Err f → ExpandedAbstraction at st st1 l l2 b i1 head body r
      unfolding abstraction_rule
      abstraction_refused e same = rw same (record { means = λ c qs h k n y g u w2 p q t. stops _ (then_no _ (on_refused (abstraction_goes k n y g p q t) e)) })

      module _ {o : Out} (e : a ≡ Ok o) where
        scoped_to : (k : rules.Binder) (n : ℕ) (y : Stx) (g : Around) → ShownBinder n l b k → Rep l b.state.top body (stx y) → RepA l b.state.top at g
            → Gave objects 2 node_spare l l2 b.state (store_of st1) (after (scoped_rule (around g at) k (variable k.sets n) y (state_of b.state (store_of st))) (further_rule (expansion at.entries))) o
        scoped_to k n y g p q t = on_done (abstraction_goes k n y g p q t) e

        pub abstraction_three_ready : {i head : ℕ} → ReadyAbstraction l st b i head body at → length l1 ≡ length l → length l2 ≡ length l1 → ReadyThree l2 o.state i head b.at o.at
        abstraction_three_ready r len1 len2 =
            let len = len2 ∙ len1 in
            let g = scoped_to r.binder r.symb r.thing r.within.meant r.shown-binder r.shown_body r.within.known in
            record {
              sets = r.sets;
              old = r.old;
              first = r.first;
              second = atom r.binder.sets (symbol r.symb);
              third = g.value;
              shown = carry r.shown g.later.kept g.later.grows;
              shown-first = carry r.shown-first g.later.kept g.later.grows;
              shown-second = carry r.shown-binder.rep g.later.kept g.later.grows;
              shown-third = g.shown.rep;
              room = room-later r.within.room g.later len;
              free = omega (arith, g.later.fits, r.free, len);
              few = g.shown.few;
            }

        pub abstraction_made : {i head : ℕ} {l3 : List ℕ} {q : Result Out Stop} → ThreeLists l2 l3 o.state i head b.at o.at q → ExpandedAbstraction at st st1 l l3 b i head body q
        unfolding abstraction_rule
        abstraction_made f =
            record {
              means = λ c qs h k n y g u w2 p q t.
                  let j = scoped_to k n y g p q t in
                  beyond 2 (node_spare + triple_spare) 2 2 j.later (owes_two o.state) (owes_two b.state) (omega arith) (omega arith) (then_ok _ j.is)
                  (f.means (store_of st1) c qs h (atom k.sets (symbol n)) j.value (carry u j.later.kept j.later.grows) (carry w2 j.later.kept j.later.grows) (carry p.rep j.later.kept j.later.grows) j.shown.rep);
            }

pub ruleset laws = (
  lambda-seen,
  lambda_shape,
  lambda_id_seen,
  lambda_no_id,
  lambda_function_ready,
  lambda_function,
  function_binder_ready,
  function_refused,
  function_less,
  function_abstraction_ready,
  function_abstraction,
  abstraction_scoped_ready,
  abstraction_next_ready,
  abstraction_less,
  abstraction_unscoped,
  abstraction_refused,
  abstraction_three_ready,
  abstraction_made,
)
