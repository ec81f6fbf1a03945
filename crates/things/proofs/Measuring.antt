-- Measuring: one law for each way out.
use mathlib.Core.Path.{◌≡◌, refl, sym}
use mathlib.Core.List.{List}
use mathlib.Core.Logic.{◌⊎◌, inl, inr}
use Prim.Native.Nat.{ℕ, ◌+◌, ◌^◌, ◌≤◌, ◌<◌, min}
use native.Mathlib.Omega.{arith}
use lib.ListN.{length}
use Rattle.model.specs.Objects as m
use Rattle.model.specs.Objects.{Stx, list, size}
use Rattle.model.specs.Trees.{Tree, fun, tcons, from_stxs, tsize, tsize_by, tnesting, app, lst, stx}
use Rattle.table.specs.Tags.{list_tag, application_tag, function_tag, list_value_tag}
use Rattle.table.specs.Words.{get_node, get_body, get_cell}
use Rattle.table.specs.declared.Node.{Node}
use Rattle.table.specs.declared.Body.{Body}
use Rattle.table.specs.declared.Cell.{Cell}
use Rattle.things.specs.Weights.{weight}
use Rattle.things.specs.Rep.{Rep, is-var, is-app, is-fun, is-lst, is-datum, is-atom, is-list}
use Rattle.things.specs.Measuring.{Seen, SeenP, Extends, Measured, MeasuredP, MeasuredL}
use Rattle.things.specs.declared.Extent.{Extent}
use Rattle.things.proofs.Weighing.{size-app, size-fun, size-lst, size-stx, size_none, nest_app, nest_fun, nest_lst, nest_list, nest_none, weight-app, weight-fun, weight-lst, weight-list, weight-none}
use Rattle.things.proofs.Frame.{below, deep_p}
use Rattle.things.proofs.ByTag.{tag-low, tag_is, app-at, fun-at, lst-at, atom-at, list_at, part_at, none-at}
use Rattle.table.specs.Sizes.{cell_size, node_size, most_size}

-- ---- a chain

pub none_measured : {l : List ℕ} {c : ℕ} → c ≡ 0 → MeasuredP l c (record { size = 0; weight = 0; nesting = 0 })
none_measured h =
    record { means = λ top ts r. rw (none-at r h) (record { size = omega (arith, size_none); weight = omega (arith, weight-none); nesting = sym nest_none }) }

pub cell_inside : {l : List ℕ} {c : ℕ} → SeenP l c → ¬ (c ≡ 0) → c + cell_size ≤ length l
cell_inside r h = omega (arith, (part_at r.shown h refl).cell.inside, r.inside)

-- the chain behind the first cell
pub tail_seen : {l : List ℕ} {c : ℕ} {x : Cell} → ¬ (c ≡ 0) → x ≡ get_cell l c → SeenP l c → SeenP l x.tail
tail_seen h e r = let p = part_at r.shown h e in record { top = r.top; thing = p.others; shown = p.cell.shown-others; inside = r.inside; small = r.small }

pub cell_measured : {l : List ℕ} {c : ℕ} {x : Cell} → ¬ (c ≡ 0) → x ≡ get_cell l c → MeasuredP l c (record { size = x.size; weight = x.weight; nesting = x.nesting })
cell_measured h e =
    record { means = λ top ts r. let p = part_at r h e in rw p.is (record { size = p.cell.size; weight = p.cell.weight; nesting = p.cell.nesting }) }

-- ---- an application or list value, by its chain

module _ {l : List ℕ} {c : ℕ} {ex : Extent} (r : SeenP l c) (p : MeasuredP l c ex) where
  pub parts-size : ex.size ≤ most_size
  parts-size = omega (arith, (p.means r.top r.thing r.shown).size)

  pub parts-weight : ex.weight ≤ most_size
  parts-weight = omega (arith, (p.means r.top r.thing r.shown).weight)

  pub parts_nest : ex.nesting + 1 < 2 ^ 32
  parts_nest = omega (arith, (p.means r.top r.thing r.shown).nesting, deep_p r.shown, r.inside, r.small)

pub list_measured : {l : List ℕ} {c n : ℕ} {ex : Extent} → MeasuredP l c ex → n ≡ min most_size (1 + ex.size)
    → MeasuredL l c (record { size = n; weight = 0; nesting = ex.nesting + 1 })
list_measured p h =
    record { means = λ top ts r. let q = p.means top ts r in record { size = omega (arith, h, q.size); weight = refl; nesting = omega (arith, q.nesting) } }

-- ---- a tree

pub node-inside : {l : List ℕ} {i : ℕ} → Seen l i → i + node_size ≤ length l
node-inside r = omega (arith, below r.shown, r.inside)

module _ {l : List ℕ} {i : ℕ} {o : Node} (e : o ≡ get_node l i) where
  pub atom_measured : o.tag < list_tag → Measured l i (record { size = 1; weight = 1; nesting = 1 })
  unfolding tsize tsize_by weight m.size tnesting m.nesting
  atom_measured h = record { means = λ top t r. let p = atom-at r e h in rw p.is (record { size = refl; weight = refl; nesting = refl }) }

  pub stx-seen : Seen l i → o.tag ≡ list_tag → SeenP l o.content
  stx-seen r h = let p = list_at r.shown e h in record { top = r.top; thing = from_stxs p.parts; shown = p.shown; inside = r.inside; small = r.small }

  pub stx_measured : {n : ℕ} {ex : Extent} → o.tag ≡ list_tag → MeasuredP l o.content ex → n ≡ min most_size (1 + ex.weight)
      → Measured l i (record { size = 1; weight = n; nesting = ex.nesting + 1 })
  stx_measured {n} {ex} h q z =
      record {
        means = λ top t r.
            let p = list_at r e h in
            let w = q.means top (from_stxs p.parts) p.shown in
            let a : 1 ≡ min most_size (tsize (stx (list p.sets p.parts))) = omega (arith, size-stx (list p.sets p.parts)) in
            let b : n ≡ min most_size (weight (stx (list p.sets p.parts))) = omega (arith, z, w.weight, weight-list p.sets p.parts) in
            let d : ex.nesting + 1 ≡ tnesting (stx (list p.sets p.parts)) = omega (arith, w.nesting, nest_list p.sets p.parts) in
            rw p.is (record { size = a; weight = b; nesting = d });
      }

  pub app-seen : Seen l i → o.tag ≡ application_tag → SeenP l o.content
  app-seen r h = let p = app-at r.shown e h in record { top = r.top; thing = tcons p.first p.others; shown = p.shown; inside = r.inside; small = r.small }

  app_measured : {ex : Extent} → o.tag ≡ application_tag → MeasuredL l o.content ex → Measured l i ex
  app_measured {ex} h q =
      record {
        means = λ top t r.
            let p = app-at r e h in
            let w = q.means top (tcons p.first p.others) p.shown in
            let a : ex.size ≡ min most_size (tsize (app p.first p.others)) = omega (arith, w.size, size-app p.first p.others) in
            let b : ex.weight ≡ min most_size (weight (app p.first p.others)) = omega (arith, w.weight, weight-app p.first p.others) in
            let d : ex.nesting ≡ tnesting (app p.first p.others) = omega (arith, w.nesting, nest_app p.first p.others) in
            rw p.is (record { size = a; weight = b; nesting = d });
      }

  pub lst-seen : Seen l i → o.tag ≡ list_value_tag → SeenP l o.content
  lst-seen r h = let p = lst-at r.shown e h in record { top = r.top; thing = p.parts; shown = p.shown; inside = r.inside; small = r.small }

  lst_measured : {ex : Extent} → o.tag ≡ list_value_tag → MeasuredL l o.content ex → Measured l i ex
  lst_measured {ex} h q =
      record {
        means = λ top t r.
            let p = lst-at r e h in
            let w = q.means top p.parts p.shown in
            let a : ex.size ≡ min most_size (tsize (lst p.parts)) = omega (arith, w.size, size-lst p.parts) in
            let b : ex.weight ≡ min most_size (weight (lst p.parts)) = omega (arith, w.weight, weight-lst p.parts) in
            let d : ex.nesting ≡ tnesting (lst p.parts) = omega (arith, w.nesting, nest_lst p.parts) in
            rw p.is (record { size = a; weight = b; nesting = d });
      }

  -- an application or a list value
  pub either-seen : Seen l i → (o.tag ≡ application_tag) ⊎ (o.tag ≡ list_value_tag) → SeenP l o.content
  either-seen r (inl h) = app-seen r h
  either-seen r (inr h) = lst-seen r h

  pub either_measured : {ex : Extent} → (o.tag ≡ application_tag) ⊎ (o.tag ≡ list_value_tag) → MeasuredL l o.content ex → Measured l i ex
  either_measured (inl h) q = app_measured h q
  either_measured (inr h) q = lst_measured h q

  module _ (s : Seen l i) (h : o.tag ≡ function_tag) {y : Body} (f : y ≡ get_body l i) where
    pub fun-size : y.size ≤ most_size
    fun-size = let p = fun-at s.shown e h f in omega (arith, p.size)

    pub fun_nest : y.nesting + 1 < 2 ^ 32
    fun_nest = let p = fun-at s.shown e h f in omega (arith, p.nesting, p.flat, below s.shown, s.inside, s.small)

    pub fun_measured : {n : ℕ} → n ≡ min most_size (1 + y.size) → Measured l i (record { size = n; weight = 0; nesting = y.nesting + 1 })
    fun_measured {n} z =
        record {
          means = λ top t r.
              let p = fun-at r e h f in
              let a : n ≡ min most_size (tsize (fun o.content p.body)) = omega (arith, z, p.size, size-fun o.content p.body) in
              let b : 0 ≡ min most_size (weight (fun o.content p.body)) = omega (arith, weight-fun o.content p.body) in
              let d : y.nesting + 1 ≡ tnesting (fun o.content p.body) = omega (arith, nest_fun o.content p.body, p.nesting) in
              rw p.is (record { size = a; weight = b; nesting = d });
        }

  module _ (n4 : list_tag ≤ o.tag) (n5 : ¬ (o.tag ≡ list_tag)) (n7 : ¬ (o.tag ≡ application_tag)) (n9 : ¬ (o.tag ≡ list_value_tag)) (n8 : ¬ (o.tag ≡ function_tag)) where
    flat-is : {top : ℕ} {t : Tree} → Rep l top i t → Extends (record { size = 1; weight = 0; nesting = 1 }) t
    unfolding tsize tsize_by weight tnesting
    flat-is (is-var a q) = record { size = refl; weight = refl; nesting = refl }
    flat-is (is-app a q r) = absurd (n7 (tag_is e q))
    flat-is (is-fun a q y r) = absurd (n8 (tag_is e q))
    flat-is (is-datum a q) = record { size = refl; weight = refl; nesting = refl }
    flat-is (is-lst a q r) = absurd (n9 (tag_is e q))
    flat-is (is-atom {a = x} a q y) = absurd (omega (arith, tag_is e q, tag-low x))
    flat-is (is-list a q y r) = absurd (n5 (tag_is e q))

    pub flat_measured : Measured l i (record { size = 1; weight = 0; nesting = 1 })
    flat_measured = record { means = λ top t r. flat-is r }

-- ---- what is charged for an object

module _ {l : List ℕ} {i : ℕ} {ex : Extent} (k : Measured l i ex) where
  pub charged-size : (x : Stx) {top : ℕ} → Rep l top i (stx x) → ex.weight ≡ min most_size (size x)
  unfolding weight
  charged-size x {top} w = (k.means top (stx x) w).weight

  -- what some units cover is the size itself
  pub covered_size : {units : ℕ} → units < most_size → ex.weight ≤ units → (x : Stx) {top : ℕ} → Rep l top i (stx x) → ex.weight ≡ size x
  covered_size few enough x w = omega (arith, charged-size x w)

pub ruleset laws = (none_measured, cell_inside, cell_measured, parts-size, parts-weight, parts_nest, list_measured, node-inside, atom_measured, stx-seen, stx_measured, either-seen, either_measured, fun-size, fun_nest, fun_measured, flat_measured)
