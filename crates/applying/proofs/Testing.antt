-- The test for code 10.
use mathlib.Core.Path.{◌≡◌, refl, sym, ap, ◌∙◌}
use mathlib.Core.List.{List}
use mathlib.Core.Bool.{Bool, true, false}
use mathlib.Core.Option.{Option, none, some}
use Prim.Native.Nat.{ℕ, suc, ◌+◌, ◌-◌, ◌^◌, ◌≤◌, ◌<◌, min}
use native.Mathlib.Omega.{arith}
use borrow.Author.Tests.{eqb-true, eqb-false, eq-eqb, ne_eqb}
use lib.Dec.{eqb}
use Rattle.model.specs.Objects as m
use Rattle.model.specs.Objects.{tag_of, content_of}
use Rattle.model.specs.Trees.{Tree, tcount, var, app, fun, datum, lst, stx}
use Rattle.model.specs.Evaluating.{Primitive, primitive_of, arity, takes, applicable}
use Rattle.table.specs.Tags.{function_tag, primitive_value_tag}
use Rattle.table.specs.Words.{get_node, get_cell}
use Rattle.table.specs.declared.Node.{Node}
use Rattle.table.specs.declared.Cell.{Cell}
use Rattle.things.specs.Rep.{Rep, is-var, is-app, is-fun, is-lst, is-datum, is-atom, is-list}
use Rattle.things.specs.Measuring.{Seen, SeenP}
use Rattle.things.proofs.ByTag.{tag-low, tag_is, content-is, fun-at, part_at, none-at}
use Rattle.things.proofs.Measuring.{cell_inside, tail_seen, node-inside}
use Rattle.primitives.proofs.Choosing.{arity-most}
use Rattle.applying.specs.Testing.{Counted, Tested, Sought, TestedP}

-- ---- count

pub count-enough : {l : List ℕ} {c most : ℕ} → most ≡ 0 → Counted l c most 0
count-enough h = record { means = λ top ts r. omega (arith, h) }

pub count_none : {l : List ℕ} {c most : ℕ} → c ≡ 0 → Counted l c most 0
unfolding tcount
count_none h = record { means = λ top ts r. rw (none-at r h) (omega arith) }

module _ {l : List ℕ} {c : ℕ} {x : Cell} (h : ¬ (c ≡ 0)) (e : x ≡ get_cell l c) where
  module _ {most n : ℕ} (k : ¬ (most ≡ 0)) (q : Counted l x.tail (most - 1) n) where
    pub count_fits : SeenP l c → most < 2 ^ 32 → n + 1 < 2 ^ 32
    count_fits r z = let p = part_at r.shown h e in omega (arith, k, q.means r.top p.others p.cell.shown-others)

    pub count-more : Counted l c most (n + 1)
    unfolding tcount
    count-more =
        record {
          means = λ top ts r.
              let p = part_at r h e in
              let z : n + 1 ≡ min most (suc (tcount p.others)) = omega (arith, k, q.means top p.others p.cell.shown-others) in
              rw p.is z;
        }

-- ---- applicable

pub prim-is : {l : List ℕ} {top f : ℕ} {p : Node} {t : Tree} → p ≡ get_node l f → Rep l top f t → p.tag ≡ primitive_value_tag → t ≡ datum (m.prim p.content)
unfolding tag_of content_of
prim-is e (is-var a q) h = absurd (omega (arith, tag_is e q))
prim-is e (is-app a q r) h = absurd (omega (arith, tag_is e q))
prim-is e (is-fun a q y r) h = absurd (omega (arith, tag_is e q))
prim-is e (is-datum {a = m.symbol x} a q) h = absurd (omega (arith, tag_is e q))
prim-is e (is-datum {a = m.number x} a q) h = absurd (omega (arith, tag_is e q))
prim-is e (is-datum {a = m.point x} a q) h = absurd (omega (arith, tag_is e q))
prim-is e (is-datum {a = m.prim x} a q) h = ap (λ (j : ℕ). datum (m.prim j)) (sym (content-is e q))
prim-is e (is-datum {a = m.rung x} a q) h = absurd (omega (arith, tag_is e q))
prim-is e (is-lst a q r) h = absurd (omega (arith, tag_is e q))
prim-is e (is-atom {a = x} a q y) h = absurd (omega (arith, tag_is e q, tag-low x))
prim-is e (is-list a q y r) h = absurd (omega (arith, tag_is e q))

none-able : {l : List ℕ} {top f : ℕ} {p : Node} {t : Tree} (n : ℕ) → p ≡ get_node l f → Rep l top f t → ¬ (p.tag ≡ function_tag) → ¬ (p.tag ≡ primitive_value_tag) → false ≡ applicable t n
unfolding applicable tag_of
none-able n e (is-var a q) h k = refl
none-able n e (is-app a q r) h k = refl
none-able n e (is-fun a q y r) h k = absurd (h (tag_is e q))
none-able n e (is-datum {a = m.symbol x} a q) h k = refl
none-able n e (is-datum {a = m.number x} a q) h k = refl
none-able n e (is-datum {a = m.point x} a q) h k = refl
none-able n e (is-datum {a = m.prim x} a q) h k = absurd (k (tag_is e q))
none-able n e (is-datum {a = m.rung x} a q) h k = refl
none-able n e (is-lst a q r) h k = refl
none-able n e (is-atom a q y) h k = refl
none-able n e (is-list a q y r) h k = refl

module _ {l : List ℕ} {f n : ℕ} {p : Node} (e : p ≡ get_node l f) where
  pub able-fun : p.tag ≡ function_tag → Tested l f n (eqb n 1)
  unfolding applicable
  able-fun h = record { means = λ top t a. let w = fun-at a e h refl in rw w.is refl }

  pub able-prim : {y : Bool} → p.tag ≡ primitive_value_tag → y ≡ takes (primitive_of p.content) n → Tested l f n y
  unfolding applicable
  able-prim h j = record { means = λ top t a. rw (prim-is e a h) j }

  pub able-none : ¬ (p.tag ≡ function_tag) → ¬ (p.tag ≡ primitive_value_tag) → Tested l f n false
  able-none h k = record { means = λ top t a. none-able n e a h k }

-- ---- a count of 4 is as good as any that is more

few : (n k : ℕ) → k ≤ 3 → eqb (min 4 n) k ≡ eqb n k
few n k h = by_test (eqb n k) refl
  where
    by_test : (c : Bool) → eqb n k ≡ c → eqb (min 4 n) k ≡ c
    by_test true e = let z : min 4 n ≡ k = omega (arith, eqb-true n k e) in eq-eqb (min 4 n) k z
    by_test false e = ne_eqb (min 4 n) k (λ y. eqb-false n k e (omega arith))

takes-few : (o : Option Primitive) (n : ℕ) → takes o (min 4 n) ≡ takes o n
unfolding takes
takes-few none n = refl
takes-few (some q) n = few n (arity q) (arity-most q)

applicable-few : (t : Tree) (n : ℕ) → applicable t (min 4 n) ≡ applicable t n
unfolding applicable
applicable-few (var x) n = refl
applicable-few (app h l) n = refl
applicable-few (fun x b) n = few n 1 (omega arith)
applicable-few (datum (m.symbol x)) n = refl
applicable-few (datum (m.number x)) n = refl
applicable-few (datum (m.point x)) n = refl
applicable-few (datum (m.prim x)) n = takes-few (primitive_of x) n
applicable-few (datum (m.rung x)) n = refl
applicable-few (lst l) n = refl
applicable-few (stx x) n = refl

-- ---- applicable_to

pub sought-value : {l : List ℕ} {f c : ℕ} → Sought l f c → Seen l f
sought-value r = record { top = r.top; thing = r.value; shown = r.shown; inside = r.inside; small = r.small }

pub sought-parts : {l : List ℕ} {f c : ℕ} → Sought l f c → SeenP l c
sought-parts r = record { top = r.top; thing = r.things; shown = r.shown-parts; inside = r.inside; small = r.small }

pub able-to : {l : List ℕ} {f c n : ℕ} {y : Bool} → Counted l c 4 n → Tested l f n y → TestedP l f c y
able-to q h = record { means = λ top t ts a d. h.means top t a ∙ ap (applicable t) (q.means top ts d) ∙ applicable-few t (tcount ts) }

pub ruleset testing = (sought-value, sought-parts, able-to, cell_inside, node-inside, count-enough, count_none, tail_seen, count_fits, count-more, able-fun, able-prim, able-none)
