-- Making: one law for each way out, and what a stored node stands for.
use mathlib.Core.Path.{◌≡◌, refl, ◌∙◌}
use mathlib.Core.List.{List}
use Prim.Native.Nat.{ℕ, ◌+◌, ◌^◌, ◌≤◌, ◌<◌, min, max}
use native.Mathlib.Omega.{arith}
use lib.ListN.{length}
use Rattle.model.specs.Objects as m
use Rattle.model.specs.Objects.{Atom, tag_of, content_of, Stxs, atom, list}
use Rattle.model.specs.Trees.{Tree, Trees, var, app, datum, lst, stx, tcons, from_stxs, tsize, tnesting, tnestings}
use Rattle.table.specs.Tags.{list_tag, variable_tag, application_tag, function_tag, list_value_tag, atom_value_tag}
use Rattle.table.specs.Words.{get_node, get_body, get_cell, put_node, put_object, put_function, put_cell, Same}
use Rattle.table.specs.declared.Node.{Node}
use Rattle.table.specs.declared.Sets.{Sets}
use Rattle.table.specs.declared.Object.{Object}
use Rattle.table.specs.declared.Body.{Body}
use Rattle.table.specs.declared.Cell.{Cell}
use Rattle.table.proofs.Laws.{put_node-below, get_put_node, put_object-below, node-put_object, sets-put_object, put_function-below, node-put_function, body_put_function, put_cell-below, get_put_cell}
use Rattle.things.specs.Weights.{tsizes, weights}
use Rattle.things.specs.Rep.{Rep, RepP, is-var, is-app, is-fun, is-lst, is-datum, is-atom, is-list, is-part, sets_of}
use Rattle.things.specs.Measuring.{Seen, SeenP, Measured, MeasuredP}
use Rattle.things.specs.Making.{Roomy, Stored, StoredObject, Closable, Closed, Linkable, Linked}
use Rattle.things.specs.declared.Extent.{Extent}
use Rattle.things.proofs.Weighing.{size-cons, weight-cons, nest_cons}
use Rattle.things.proofs.Frame.{stays, stays_p}
use Rattle.table.specs.Sizes.{cell_size, node_size, most_size}

-- ---- nodes and objects

pub room-add : {l : List ℕ} {top : ℕ} (n : ℕ) → Roomy l top n → top + n < 2 ^ 32
room-add n r = omega (arith, r.fits, r.small)

pub room_fits : {l : List ℕ} {top : ℕ} (n : ℕ) → Roomy l top n → top + n ≤ length l
room_fits n r = r.fits

module _ {l l1 : List ℕ} {top : ℕ} (r : Roomy l top node_size) where
  pub node-stored : {n : Node} → l1 ≡ put_node l top n → Stored l l1 top n top (top + node_size)
  node-stored {n} e = record { kept = rw e (put_node-below l top n); place = refl; grows = refl; node = rw e (get_put_node l top n r.fits) }

  pub object-stored : {n : Node} {c : Sets} → l1 ≡ put_object l top (record { node = n; sets = c }) → StoredObject l l1 top n c top (top + node_size)
  object-stored {n} {c} e =
      let o : Object = record { node = n; sets = c } in
      record {
        stored = record { kept = rw e (put_object-below l top o); place = refl; grows = refl; node = rw e (node-put_object l top o r.fits) };
        sets = rw e (sets-put_object l top o r.fits);
      }

-- ---- what they stand for

module _ {l l1 : List ℕ} {top at top1 : ℕ} where
  pub made-var : {n : ℕ} → Stored l l1 top (record { tag = variable_tag; content = n }) at top1 → Rep l1 top1 at (var n)
  made-var s = let fits : at + node_size ≤ top1 = omega (arith, s.place, s.grows) in is-var fits s.node

  pub made-app : {c : ℕ} {h : Tree} {ts : Trees} → Stored l l1 top (record { tag = application_tag; content = c }) at top1 → RepP l top c (tcons h ts) → Rep l1 top1 at (app h ts)
  made-app {c} {h} {ts} s r = let fits : at + node_size ≤ top1 = omega (arith, s.place, s.grows) in
      let q : RepP l1 at c (tcons h ts) = rw s.place (stays_p r s.kept) in is-app fits s.node q

  pub made-lst : {c : ℕ} {ts : Trees} → Stored l l1 top (record { tag = list_value_tag; content = c }) at top1 → RepP l top c ts → Rep l1 top1 at (lst ts)
  made-lst {c} {ts} s r = let fits : at + node_size ≤ top1 = omega (arith, s.place, s.grows) in
      let q : RepP l1 at c ts = rw s.place (stays_p r s.kept) in is-lst fits s.node q

  pub made-datum : (a : Atom) → Stored l l1 top (record { tag = atom_value_tag + tag_of a; content = content_of a }) at top1 → Rep l1 top1 at (datum a)
  made-datum a s = let fits : at + node_size ≤ top1 = omega (arith, s.place, s.grows) in is-datum fits s.node

  pub made-atom : (a : Atom) {c : Sets} {d : m.Sets} → sets_of c ≡ d → StoredObject l l1 top (record { tag = tag_of a; content = content_of a }) c at top1 → Rep l1 top1 at (stx (atom d a))
  made-atom a q s =
      let fits : at + node_size ≤ top1 = omega (arith, s.stored.place, s.stored.grows) in
      is-atom fits s.stored.node (s.sets ∙ q)

  pub made_list : {k : ℕ} {ps : Stxs} {c : Sets} {d : m.Sets} → sets_of c ≡ d → StoredObject l l1 top (record { tag = list_tag; content = k }) c at top1 → RepP l top k (from_stxs ps)
      → Rep l1 top1 at (stx (list d ps))
  made_list {k} {ps} q s r =
      let fits : at + node_size ≤ top1 = omega (arith, s.stored.place, s.stored.grows) in
      let w : RepP l1 at k (from_stxs ps) = rw s.stored.place (stays_p r s.stored.kept) in
      is-list fits s.stored.node (s.sets ∙ q) w

-- ---- functions

module _ {l : List ℕ} {top b : ℕ} (r : Closable l top b) where
  pub body_seen : Seen l b
  body_seen = record { top = top; thing = r.thing; shown = r.shown; inside = omega (arith, r.room.fits); small = r.room.small }

  pub body_fits : top + node_size ≤ length l
  body_fits = r.room.fits

  pub body_add : top + node_size < 2 ^ 32
  body_add = omega (arith, r.room.fits, r.room.small)

  pub closed : {l1 : List ℕ} {n : ℕ} {ex : Extent} → Measured l b ex → l1 ≡ put_function l top n (record { at = b; size = ex.size; nesting = ex.nesting })
      → Closed l l1 top n b top (top + node_size)
  closed {l1} {n} {ex} p e =
      let y : Body = record { at = b; size = ex.size; nesting = ex.nesting } in
      let sm : Same top l l1 = rw e (put_function-below l top n y) in
      record {
        kept = sm;
        grows = refl;
        means = λ t u.
            let q = p.means top t u in
            let fits : top + node_size ≤ top + node_size = omega arith in
            let g : get_body l1 top ≡ record { at = b; size = min most_size (tsize t); nesting = tnesting t } =
            rw e (body_put_function l top n y r.room.fits) ∙ (λ j. record { at = b; size = q.size j; nesting = q.nesting j }) in
            let nd : get_node l1 top ≡ record { tag = function_tag; content = n } = rw e (node-put_function l top n y r.room.fits) in
            is-fun fits nd g (stays u sm);
      }

-- ---- a cell more

module _ {l : List ℕ} {top i c : ℕ} (r : Linkable l top i c) where
  pub link-seen : Seen l i
  link-seen = record { top = top; thing = r.thing; shown = r.shown; inside = omega (arith, r.room.fits); small = r.room.small }

  pub link_seen_p : SeenP l c
  link_seen_p = record { top = top; thing = r.others; shown = r.shown-others; inside = omega (arith, r.room.fits); small = r.room.small }

  pub link_fits : top + cell_size ≤ length l
  link_fits = r.room.fits

  pub link-add : top + cell_size < 2 ^ 32
  link-add = omega (arith, r.room.fits, r.room.small)

  pub link-size : {a : Extent} → Measured l i a → a.size ≤ most_size
  link-size p = omega (arith, (p.means top r.thing r.shown).size)

  pub link_size_p : {b : Extent} → MeasuredP l c b → b.size ≤ most_size
  link_size_p q = omega (arith, (q.means top r.others r.shown-others).size)

  pub link-weight : {a : Extent} → Measured l i a → a.weight ≤ most_size
  link-weight p = omega (arith, (p.means top r.thing r.shown).weight)

  pub link_weight_p : {b : Extent} → MeasuredP l c b → b.weight ≤ most_size
  link_weight_p q = omega (arith, (q.means top r.others r.shown-others).weight)

  module _ {a b : Extent} (p : Measured l i a) (q : MeasuredP l c b) where
    pub linked : {w n k : ℕ} {l1 : List ℕ} → w ≡ min most_size (a.weight + b.weight) → n ≡ min most_size (a.size + b.size) → k ≡ max a.nesting b.nesting
        → l1 ≡ put_cell l top (record { head = i; tail = c; weight = w; size = n; nesting = k }) → Linked l l1 top i c top (top + cell_size)
    linked {w} {n} {k} {l1} zw zn zk e =
        let x : Cell = record { head = i; tail = c; weight = w; size = n; nesting = k } in
        let sm : Same top l l1 = rw e (put_cell-below l top x) in
        record {
          kept = sm;
          grows = refl;
          means = λ t ts u v.
              let d = p.means top t u in
              let f = q.means top ts v in
              let ew : w ≡ min most_size (weights (tcons t ts)) = omega (arith, weight-cons t ts, zw, d.weight, f.weight) in
              let en : n ≡ min most_size (tsizes (tcons t ts)) = omega (arith, size-cons t ts, zn, d.size, f.size) in
              let ek : k ≡ tnestings (tcons t ts) = omega (arith, nest_cons t ts, zk, d.nesting, f.nesting) in
              let pos : 0 < top = omega (arith, r.room.low) in
              let fits : top + cell_size ≤ top + cell_size = omega arith in
              let g : get_cell l1 top ≡ record { head = i; tail = c; weight = min most_size (weights (tcons t ts)); size = min most_size (tsizes (tcons t ts)); nesting = tnestings (tcons t ts) } =
              rw e (get_put_cell l top x r.room.fits) ∙ (λ j. record { head = i; tail = c; weight = ew j; size = en j; nesting = ek j }) in
              is-part pos fits g (stays u sm) (stays_p v sm);
        }

pub ruleset laws = (room-add, room_fits, node-stored, object-stored, body_seen, body_fits, body_add, closed, link-seen, link_seen_p, link_fits, link-add, link-size, link_size_p, link-weight, link_weight_p, linked)
