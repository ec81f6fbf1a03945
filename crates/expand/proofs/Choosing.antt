-- A value applied to its values, by what it is: one law for each way out of apply.
use Rattle.std.specs.Prelude.{Result, Ok, Err}
use mathlib.Core.Path.{◌≡◌, refl, sym, ap, ◌∙◌}
use mathlib.Core.List.{List}
use mathlib.Core.Bool.{Bool, true, false, not, false≢true}
use Prim.Native.Nat.{ℕ, zero, suc, ◌+◌, ◌*◌, ◌≤◌, ◌<◌, min}
use native.Mathlib.Omega.{arith}
use lib.ListN.{length}
use borrow.Author.Tests.{eqb-true}
use Rattle.model.specs.Objects as objects
use Rattle.model.specs.Objects.{content_of}
use Rattle.model.specs.Meanings as m
use Rattle.model.specs.Steps as ms
use Rattle.model.specs.Steps.{after, charge}
use Rattle.model.specs.Trees.{Tree, Trees, tcount, tsize, fun, datum, as_atom}
use Rattle.model.specs.Evaluating.{Evaluator, Expander, primitive_of, takes, wants_use, as_primitive, is_local, applicable, allowed, argument, apply_local, apply_primitive, apply}
use Rattle.table.specs.Tags.{function_tag}
use Rattle.table.specs.Words.{get_node, get_body}
use Rattle.table.specs.declared.Node.{Node}
use Rattle.table.specs.declared.Body.{Body}
use Rattle.things.specs.Rep.{Rep, is-var, is-app, is-fun, is-lst, is-datum, is-atom, is-list}
use Rattle.things.proofs.Frame.{below}
use Rattle.things.proofs.ByTag.{tag_is, content-is, fun-at}
use Rattle.primitives.proofs.Choosing.{given_1}
use Rattle.steps.specs.declared.Stop.{Stop}
use Rattle.steps.specs.declared.Out.{Out}
use Rattle.steps.specs.States.{store_of, state_of}
use Rattle.steps.specs.Agreement.{Gave, stops}
use Rattle.steps.proofs.Laws.{later_refl, then_ok, then_no, after-after, on_done, on_refused, since}
use Rattle.parse.specs.Shown.{trees}
use Rattle.environment.specs.declared.Place.{Place}
use Rattle.environment.proofs.Frame.{carry_place}
use Rattle.applying.specs.declared.Values.{Values}
use Rattle.applying.specs.Doing.{ReadyFunction, substituted_rule, Substitutes, ReadyPrimitive, DoesPrimitive}
use Rattle.asking.specs.Answering.{ReadyToAsk, asked_rule, answer_rule, Answers}
use Rattle.expand.specs.Values.{evaluation}
use Rattle.expand.specs.Evaluation.{ReadyToEvaluate, ReadyApply, ReadyWithin, within_of, Evaluates, Does, DoesWithin}
use Rattle.expand.specs.Cycle.{expansion}
use Rattle.expand.proofs.Evaluating.{placed-later}
use Rattle.table.specs.Sizes.{node_size, most_size}

pub apply-inside : {l st : List ℕ} {f : ℕ} {v : Values} {place : Place} → ReadyApply l st f v place → f + node_size ≤ length l
apply-inside r = omega (arith, below r.shown, r.placed.room.fits)

-- ---- what the value is

one_argument : {n : ℕ} {b t : Tree} (k : ℕ) → t ≡ fun n b → applicable t k ≡ true → 1 ≤ k
unfolding applicable
one_argument k e h = omega (arith, eqb-true k 1 (rw e at h))

record PrimAt (o : Node) (t : Tree) (n : ℕ) : Type 0 where
  is : t ≡ datum (objects.prim o.content)
  able : takes (primitive_of o.content) n ≡ true

prim-at : {l : List ℕ} {top i : ℕ} {t : Tree} {p : Node} (n : ℕ) → Rep l top i t → p ≡ get_node l i → ¬ (p.tag ≡ function_tag) → applicable t n ≡ true → PrimAt p t n
unfolding applicable content_of
prim-at n (is-var a q) e h k = let z : ◌≡◌ {A = ℕ} 0 1 = cc in absurd (omega arith)
prim-at n (is-app a q r) e h k = let z : ◌≡◌ {A = ℕ} 0 1 = cc in absurd (omega arith)
prim-at n (is-fun a q y r) e h k = absurd (h (tag_is e q))
prim-at n (is-datum {a = objects.symbol x} a q) e h k = let z : ◌≡◌ {A = ℕ} 0 1 = cc in absurd (omega arith)
prim-at n (is-datum {a = objects.number x} a q) e h k = let z : ◌≡◌ {A = ℕ} 0 1 = cc in absurd (omega arith)
prim-at n (is-datum {a = objects.point x} a q) e h k = let z : ◌≡◌ {A = ℕ} 0 1 = cc in absurd (omega arith)
prim-at {p = p} n (is-datum {a = objects.prim x} a q) e h k =
    let z : p.content ≡ x = content-is e q in
    record { is = ap (λ (j : ℕ). datum (objects.prim j)) (sym z); able = ap (λ (j : ℕ). takes (primitive_of j) n) z ∙ k }
prim-at n (is-datum {a = objects.rung x} a q) e h k = let z : ◌≡◌ {A = ℕ} 0 1 = cc in absurd (omega arith)
prim-at n (is-lst a q r) e h k = let z : ◌≡◌ {A = ℕ} 0 1 = cc in absurd (omega arith)
prim-at n (is-atom a q y) e h k = let z : ◌≡◌ {A = ℕ} 0 1 = cc in absurd (omega arith)
prim-at n (is-list a q y r) e h k = let z : ◌≡◌ {A = ℕ} 0 1 = cc in absurd (omega arith)

-- a local primitive is applied in a macro's use
record InUse (q : m.Place) : Type 0 where
  intro : ℕ
  here : m.Surroundings
  is : q ≡ m.macro_use intro here

in_use : (q : m.Place) (p : ℕ) {t : Tree} → t ≡ datum (objects.prim p) → wants_use (primitive_of p) ≡ true → allowed q t ≡ true → InUse q
unfolding allowed is_local as_atom as_primitive
in_use m.nowhere p e w k = absurd (false≢true (ap not (sym w) ∙ (rw e at k)))
in_use (m.macro_use i here) p e w k = record { intro = i; here = here; is = refl }

two-values : (n : ℕ) → takes (primitive_of 8) n ≡ true → 2 ≤ n
unfolding primitive_of takes
two-values n h = omega (arith, eqb-true n 2 h)

one_value : (p n : ℕ) → wants_use (primitive_of p) ≡ true → takes (primitive_of p) n ≡ true → 1 ≤ n
unfolding primitive_of wants_use takes
one_value zero n w h = absurd (false≢true w)
one_value (suc zero) n w h = absurd (false≢true w)
one_value (suc (suc zero)) n w h = absurd (false≢true w)
one_value (suc (suc (suc zero))) n w h = absurd (false≢true w)
one_value (suc (suc (suc (suc zero)))) n w h = absurd (false≢true w)
one_value (suc (suc (suc (suc (suc zero))))) n w h = absurd (false≢true w)
one_value (suc (suc (suc (suc (suc (suc zero)))))) n w h = absurd (false≢true w)
one_value (suc (suc (suc (suc (suc (suc (suc zero))))))) n w h = omega (arith, eqb-true n 1 h)
one_value (suc (suc (suc (suc (suc (suc (suc (suc zero)))))))) n w h = omega (arith, eqb-true n 2 h)
one_value (suc (suc (suc (suc (suc (suc (suc (suc (suc zero))))))))) n w h = omega (arith, eqb-true n 1 h)
one_value (suc (suc (suc (suc (suc (suc (suc (suc (suc (suc p)))))))))) n w h = absurd (false≢true w)

-- ---- the rules

module _ (self : Evaluator) (other : Expander) (y : ms.State) where
  function_split : (q : m.Place) (n : ℕ) (b : Tree) (l : Trees) → apply self other q (fun n b) l y ≡ after (substituted_rule n (argument l 0) b y) (λ t. self q t)
  unfolding apply substituted_rule
  function_split q n b l = sym (after-after (charge (tsize b) y) _ _)

  within-is : (k : ℕ) (here : m.Surroundings) (p : ℕ) (l : Trees) → p ≡ 8 → apply self other (m.macro_use k here) (datum (objects.prim p)) l y ≡ within_of other (m.macro_use k here) l y
  unfolding apply apply_primitive primitive_of within_of
  within-is k here p l e = rw e refl

  asked_is : (k : ℕ) (here : m.Surroundings) (p : ℕ) (l : Trees) → wants_use (primitive_of p) ≡ true → ¬ (p ≡ 8) → apply self other (m.macro_use k here) (datum (objects.prim p)) l y ≡ answer_rule p here (argument l 0) y
  unfolding apply apply_primitive primitive_of wants_use apply_local answer_rule asked_rule
  asked_is k here zero l w h = absurd (false≢true w)
  asked_is k here (suc zero) l w h = absurd (false≢true w)
  asked_is k here (suc (suc zero)) l w h = absurd (false≢true w)
  asked_is k here (suc (suc (suc zero))) l w h = absurd (false≢true w)
  asked_is k here (suc (suc (suc (suc zero)))) l w h = absurd (false≢true w)
  asked_is k here (suc (suc (suc (suc (suc zero))))) l w h = absurd (false≢true w)
  asked_is k here (suc (suc (suc (suc (suc (suc zero)))))) l w h = absurd (false≢true w)
  asked_is k here (suc (suc (suc (suc (suc (suc (suc zero))))))) l w h = refl
  asked_is k here (suc (suc (suc (suc (suc (suc (suc (suc zero)))))))) l w h = absurd (h refl)
  asked_is k here (suc (suc (suc (suc (suc (suc (suc (suc (suc zero))))))))) l w h = refl
  asked_is k here (suc (suc (suc (suc (suc (suc (suc (suc (suc (suc p)))))))))) l w h = absurd (false≢true w)

-- ---- apply

pub apply_within_less : (v : Values) {T : ℕ} → v.state.left * 32 + 2 ≡ T → v.state.left * 32 + 1 < T
apply_within_less v z = omega arith

module _ {st l : List ℕ} {f : ℕ} {v : Values} {place : Place} {p : Node} (r : ReadyApply l st f v place) (e : p ≡ get_node l f) where
  module _ (h : p.tag ≡ function_tag) {u : Body} (j : u ≡ get_body l f) where
    pub function_ready : ReadyFunction l v.state u v.x
    function_ready =
        let w = fun-at r.shown e h j in
        record {
          thing = w.body;
          value = argument r.values 0;
          shown = w.shown;
          given = given_1 r.given (one_argument (tcount r.values) w.is r.able);
          sized = w.size;
          room = r.placed.room;
          few = r.placed.few;
        }

    module _ {l1 : List ℕ} {a : Result Out Stop} (d : Substitutes l l1 v.state p.content u v.x a) where
      pub function_refused : {r : Result Out Stop} {entries : ℕ} {g : Stop} → a ≡ Err g → r ≡ Err g → Does entries place st st l l1 f v r
      function_refused {entries = entries} k same =
          rw same (record {
            means = λ t ts q b g w able ok.
                let c = fun-at b e h j in
                let n = on_refused (d.means (store_of st) c.body (argument ts 0) c.shown (given_1 g (one_argument (tcount ts) c.is able)) c.size) k in
                rw c.is (stops _ (function_split (evaluation entries) (expansion entries) (state_of v.state (store_of st)) q p.content c.body ts ∙ then_no _ n));
          })

      module _ {o : Out} (k : a ≡ Ok o) where
        substituted_to : (t w : Tree) → Rep l v.state.top u.at t → Rep l v.state.top v.x w → u.size ≡ min most_size (tsize t)
            → Gave trees 0 0 l l1 v.state (store_of st) (substituted_rule p.content w t (state_of v.state (store_of st))) o
        substituted_to t w b c z = on_done (d.means (store_of st) t w b c z) k

        pub function_evaluate : length l1 ≡ length l → ReadyToEvaluate l1 st o.state o.at place
        function_evaluate len =
            let q = function_ready in
            let g = substituted_to q.thing q.value q.shown q.given q.sized in
            record { thing = g.value; shown = g.shown.rep; placed = placed-later r.placed g.later g.shown.few len refl }

        pub function_less : {T : ℕ} → v.state.left * 32 + 2 ≡ T → o.state.left * 32 < T
        function_less z = let q = function_ready in omega (arith, (substituted_to q.thing q.value q.shown q.given q.sized).later.spent)

        pub function_done : {entries : ℕ} {st1 l2 : List ℕ} {b : Result Out Stop} → Evaluates entries place st st1 l1 l2 o.state o.at b → Does entries place st st1 l l2 f v b
        function_done {entries} c =
            record {
              means = λ t ts q b g w able ok.
                  let n = fun-at b e h j in
                  let y = substituted_to n.body (argument ts 0) n.shown (given_1 g (one_argument (tcount ts) n.is able)) n.size in
                  rw n.is (since 0 0 y.later (omega arith) (omega arith)
                  (function_split (evaluation entries) (expansion entries) (state_of v.state (store_of st)) q p.content n.body ts ∙ then_ok _ y.is)
                  (c.means y.value q y.shown.rep (carry_place w y.later.kept y.later.grows)));
            }

  module _ (h : ¬ (p.tag ≡ function_tag)) where
    is-prim : PrimAt p r.value (tcount r.values)
    is-prim = prim-at (tcount r.values) r.shown e h r.able

    pub within-ready : p.content ≡ 8 → ReadyWithin l st v place
    unfolding primitive_of wants_use
    within-ready z =
        let n = is-prim in
        let k = in_use r.placed.where_it_is p.content n.is (rw z refl) r.permitted in
        record {
          values = r.values;
          given = r.given;
          two = two-values (tcount r.values) (rw z at n.able);
          intro = k.intro;
          here = k.here;
          used = rw k.is at r.placed.stands;
          room = r.placed.room;
          held = record { few = r.placed.few; wide = r.placed.wide k.intro k.here k.is };
        }

    pub apply-within : {entries : ℕ} {st1 l1 : List ℕ} {a : Result Out Stop} → p.content ≡ 8 → DoesWithin entries place st st1 l l1 v a → Does entries place st st1 l l1 f v a
    unfolding primitive_of wants_use
    apply-within {entries} z d =
        record {
          means = λ t ts q b g w able ok.
              let n = prim-at (tcount ts) b e h able in
              let k = in_use q p.content n.is (rw z refl) ok in
              rw (n.is, k.is) (since 0 0 (later_refl l v.state) (omega arith) (omega arith)
              (within-is (evaluation entries) (expansion entries) (state_of v.state (store_of st)) k.intro k.here p.content ts z)
              (d.means ts k.intro k.here g (two-values (tcount ts) (rw z at n.able)) (rw k.is at w)));
        }

    module _ {b : Bool} (i : b ≡ wants_use (primitive_of p.content)) where
      pub asked-ready : b ≡ true → ReadyToAsk l st v.state v.x place
      asked-ready y =
          let n = is-prim in
          let k = in_use r.placed.where_it_is p.content n.is (sym i ∙ y) r.permitted in
          record {
            thing = argument r.values 0;
            shown = given_1 r.given (one_value p.content (tcount r.values) (sym i ∙ y) n.able);
            intro = k.intro;
            here = k.here;
            used = rw k.is at r.placed.stands;
            room = r.placed.room;
            held = record { few = r.placed.few; wide = r.placed.wide k.intro k.here k.is };
          }

      pub apply-asked : {entries : ℕ} {l1 : List ℕ} {a : Result Out Stop} → b ≡ true → ¬ (p.content ≡ 8) → Answers p.content place st l l1 v.state v.x a → Does entries place st st l l1 f v a
      apply-asked {entries} y z d =
          record {
            means = λ t ts q j g w able ok.
                let n = prim-at (tcount ts) j e h able in
                let k = in_use q p.content n.is (sym i ∙ y) ok in
                rw (n.is, k.is) (since 0 0 (later_refl l v.state) (omega arith) (omega arith)
                (asked_is (evaluation entries) (expansion entries) (state_of v.state (store_of st)) k.intro k.here p.content ts (sym i ∙ y) z)
                (d.means (argument ts 0) k.intro k.here (given_1 g (one_value p.content (tcount ts) (sym i ∙ y) n.able)) (rw k.is at w)));
          }

      pub primitive-ready : b ≡ false → ReadyPrimitive l v.state p.content v.x v.y v.z
      primitive-ready y = let n = is-prim in record { values = r.values; given = r.given; able = n.able; plain = sym i ∙ y; room = r.placed.room; few = r.placed.few }

      pub apply-primitive : {entries : ℕ} {l1 : List ℕ} {a : Result Out Stop} → b ≡ false → DoesPrimitive l l1 v.state p.content v.x v.y v.z a → Does entries place st st l l1 f v a
      unfolding apply
      apply-primitive {entries} y d =
          record { means = λ t ts q j g w able ok. let n = prim-at (tcount ts) j e h able in rw n.is (d.means (store_of st) (expansion entries) q ts g n.able (sym i ∙ y)) }

pub ruleset laws = (
  apply-inside,
  apply_within_less,
  function_ready,
  function_refused,
  function_evaluate,
  function_less,
  function_done,
  within-ready,
  apply-within,
  asked-ready,
  apply-asked,
  primitive-ready,
  apply-primitive,
)
