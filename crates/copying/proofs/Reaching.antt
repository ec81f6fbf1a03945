-- Objects and chains, copied: one law for each way out.
use mathlib.Core.Path.{◌≡◌, refl, sym, ap, ◌∙◌}
use mathlib.Core.List.{List}
use Prim.Native.Nat.{ℕ, ◌+◌, ◌*◌, ◌-◌, ◌≤◌, ◌<◌}
use native.Mathlib.Omega.{arith}
use lib.ListN.{length}
use Rattle.model.specs.Objects as m
use Rattle.model.specs.Objects.{Atom, tag_of, content_of, Stx, Stxs, atom, list, nil, cons, size, sizes, nesting, nestings}
use Rattle.model.specs.Trees.{stx, tnil, from_stxs}
use Rattle.laws.proofs.Sizes.{size-some}
use Rattle.table.specs.Tags.{list_tag}
use Rattle.table.specs.Words.{get_node, get_sets, get_cell, Same}
use Rattle.table.specs.declared.Node.{Node}
use Rattle.table.specs.declared.Sets.{Sets}
use Rattle.table.specs.declared.Cell.{Cell}
use Rattle.table.proofs.Laws.{same_refl, same_trans}
use Rattle.things.specs.Rep.{Rep, RepP, is_none, sets_of}
use Rattle.things.proofs.Frame.{below, carry_p}
use Rattle.things.proofs.ByTag.{atom-at, list_at, stx-tag, ConsAt, cons-at, same_object, nil-at}
use Rattle.copying.specs.Reaching.{Reached, ReachedP, Copying, CopiedBy, Puttable, Put}
use Rattle.copying.specs.Rows.{Laid, laid_none, laid_one, CopiedEach, Row, Chained}
use Rattle.copying.proofs.Sizes.{nesting_pos, size-atom, size-list, nesting-list, sizes-cons, nestings-cons}
use Rattle.copying.proofs.Rows.{laid-grows, laid-room, laid-flat, laid_stays}
use Rattle.table.specs.Sizes.{cell_size, node_size, most_budget}

-- ---- what stands at an object's index

record ListAt (l : List ℕ) (top : ℕ) (o : Node) (c : m.Sets) (x : Stx) : Type 0 where
  parts : Stxs
  is : x ≡ list c parts
  shown : RepP l top o.content (from_stxs parts)
  size : size x ≡ 1 + sizes parts
  nesting : nesting x ≡ 1 + nestings parts

list-is : {l : List ℕ} {top i : ℕ} {x : Stx} {o : Node} {c : Sets} → Rep l top i (stx x) → o ≡ get_node l i → c ≡ get_sets l i → o.tag ≡ list_tag → ListAt l top o (sets_of c) x
list-is {c = c} r e d h =
    let p = list_at r e h in
    let z : _ ≡ list (sets_of c) p.parts = same_object p.is ∙ ap (λ (s : m.Sets). list s p.parts) (sym (ap sets_of d ∙ p.words)) in
    record { parts = p.parts; is = z; shown = p.shown; size = ap size z ∙ size-list (sets_of c) p.parts; nesting = ap nesting z ∙ nesting-list (sets_of c) p.parts }

record AtomIs (o : Node) (c : m.Sets) (x : Stx) : Type 0 where
  value : Atom
  is : x ≡ atom c value
  node : o ≡ record { tag = tag_of value; content = content_of value }
  size : size x ≡ 1

atom-is : {l : List ℕ} {top i : ℕ} {x : Stx} {o : Node} {c : Sets} → Rep l top i (stx x) → o ≡ get_node l i → c ≡ get_sets l i → ¬ (o.tag ≡ list_tag) → AtomIs o (sets_of c) x
atom-is {o = o} {c = c} r e d h =
    let low : o.tag < list_tag = omega (arith, stx-tag r e, h) in
    let p = atom-at r e low in
    let z : _ ≡ atom (sets_of c) p.value = same_object p.is ∙ ap (λ (s : m.Sets). atom s p.value) (sym (ap sets_of d ∙ p.words)) in
    record {
      value = p.value;
      is = z;
      size = ap size z ∙ size-atom (sets_of c) p.value;
      node = λ j. record { tag = p.tag j; content = p.content j };
    }

-- ---- an object

module _ {lv : ℕ} {l : List ℕ} {top i : ℕ} (r : Reached lv l top i) where
  pub object-inside : i + node_size ≤ length l
  object-inside = omega (arith, r.object.room, size-some r.object.thing, below r.object.shown)

  pub levels-left : 1 ≤ lv
  levels-left = omega (arith, r.flat, nesting_pos r.object.thing)

  module _ {o : Node} {c : Sets} (e : o ≡ get_node l i) (d : c ≡ get_sets l i) where
    pub atom_puttable : ¬ (o.tag ≡ list_tag) → Puttable l top o
    atom_puttable h =
        record {
          room = record { fits = omega (arith, r.object.room, size-some r.object.thing); small = r.object.small; low = r.object.low };
          kind = stx-tag r.object.shown e;
        }

    module _ (h : o.tag ≡ list_tag) where
      pub list-reached : ReachedP (lv - 1) l top o.content
      list-reached =
          let p = list-is r.object.shown e d h in
          record {
            thing = p.parts;
            shown = p.shown;
            charged = omega (arith, r.object.charged, p.size);
            room = omega (arith, r.object.room, p.size);
            small = r.object.small;
            low = r.object.low;
            flat = omega (arith, r.flat, p.nesting);
          }

      pub list-falls : {t : ℕ} → 2 * lv ≡ t → 2 * (lv - 1) + 1 < t
      list-falls m = omega (arith, levels-left)

      module _ {w : Copying} {l1 : List ℕ} {end : ℕ} (m : CopiedEach w l l1 top o.content end) (len : length l1 ≡ length l) where
        pub parts_row : Row l1 top end
        parts_row =
            let p = list-is r.object.shown e d h in
            let few : sizes p.parts ≤ most_budget = omega (arith, r.object.charged, p.size) in
            record {
              by = w;
              thing = p.parts;
              laid = m.means p.parts p.shown few;
              charged = few;
              room = omega (arith, r.object.room, p.size);
              small = omega (arith, r.object.small);
              low = r.object.low;
            }

pub list_puttable : {l l1 : List ℕ} {from end at top : ℕ} {n : Node} → Chained l l1 from end at top → length l1 ≡ length l → Row l from end → n.tag ≡ list_tag → Puttable l1 top n
list_puttable k len r h =
    let n = k.means r.by r.thing r.laid r.charged in
    record {
      room = record { fits = omega (arith, r.room, n.room); small = omega (arith, r.small); low = omega (arith, r.low, n.room) };
      kind = omega arith;
    }

module _ {l : List ℕ} {i : ℕ} {o : Node} {c : Sets} (e : o ≡ get_node l i) (d : c ≡ get_sets l i) {w : Copying} where
  pub atom-copied : {l1 : List ℕ} {top at top1 : ℕ} → ¬ (o.tag ≡ list_tag) → Put w l l1 top o c at top1 → CopiedBy w l l1 top i at top1
  atom-copied h s =
      record {
        kept = s.kept;
        grows = omega (arith, s.grows);
        last = omega (arith, s.place, s.grows);
        means = λ x u few.
            let p = atom-is u e d h in
            record { shown = rw p.is (s.is-atom p.value p.node); room = omega (arith, s.grows, p.size) };
      }

  pub list_copied : {l1 l2 l3 : List ℕ} {top end at2 top2 at3 top3 : ℕ} → o.tag ≡ list_tag → CopiedEach w l l1 top o.content end → Chained l1 l2 top end at2 top2
      → Put w l2 l3 top2 (record { tag = list_tag; content = at2 }) c at3 top3 → CopiedBy w l l3 top i at3 top3
  list_copied {l1} {l2} {l3} {top} {end} {at2} {top2} {at3} {top3} h m k s =
      record {
        kept = same_trans top end l l1 l3 m.grows m.kept (same_trans end top2 l1 l2 l3 k.grows k.kept s.kept);
        grows = omega (arith, m.grows, k.grows, s.grows);
        last = omega (arith, s.place, s.grows);
        means = λ x u few.
            let p = list-is u e d h in
            let less : sizes p.parts ≤ most_budget = omega (arith, p.size) in
            let n = k.means w p.parts (m.means p.parts p.shown less) less in
            record { shown = rw p.is (s.is-list p.parts refl n.shown); room = omega (arith, s.grows, n.room, p.size) };
      }

-- ---- a chain

no_part : {l : List ℕ} {top c : ℕ} → RepP l top c tnil → c ≡ 0
no_part is_none = refl

record PartAt (l : List ℕ) (top c : ℕ) (x : Cell) (ps : Stxs) : Type 0 where
  first : Stx
  others : Stxs
  is : ps ≡ cons first others
  cell : ConsAt l top c x (stx first) (from_stxs others)

part-is : {l : List ℕ} {top c : ℕ} {x : Cell} (ps : Stxs) → RepP l top c (from_stxs ps) → ¬ (c ≡ 0) → x ≡ get_cell l c → PartAt l top c x ps
unfolding from_stxs
part-is nil r h e = absurd (h (no_part r))
part-is (cons s ps) r h e = record { first = s; others = ps; is = refl; cell = cons-at r e }

-- the parts so far are copied to `end`, and `part` is the chain of the rest
pub record Passed (w : Copying) (l : List ℕ) (top : ℕ) (ps : Stxs) (end part : ℕ) : Type 0 where
  pub rest : Stxs
  pub shown : RepP l end part (from_stxs rest)
  pub laid : Laid w l top ps end rest

pub record Passing (w : Copying) (l l' : List ℕ) (top c end part : ℕ) : Type 0 where
  pub long : length l' ≡ length l
  pub kept : Same top l l'
  pub grows : top ≤ end
  pub means : (ps : Stxs) → RepP l top c (from_stxs ps) → sizes ps ≤ most_budget → Passed w l' top ps end part

pub none_passed : {w : Copying} {l : List ℕ} {top c : ℕ} → Passing w l l top c top c
none_passed {w} {l} {top} = record { long = refl; kept = same_refl top l; grows = omega arith; means = λ ps r few. record { rest = ps; shown = r; laid = laid_none } }

pub all_passed : {w : Copying} {l l1 : List ℕ} {top c end part : ℕ} → Passing w l l1 top c end part → part ≡ 0 → CopiedEach w l l1 top c end
all_passed d h =
    record {
      kept = d.kept;
      grows = d.grows;
      means = λ ps r few. let k = d.means ps r few in rw (nil-at k.rest k.shown h) at k.laid;
    }

module _ {lv : ℕ} {w : Copying} {l l1 : List ℕ} {top c end part : ℕ} (r : ReachedP lv l top c) (d : Passing w l l1 top c end part) (h : ¬ (part ≡ 0)) where
  pub cell_inside : part + cell_size ≤ length l1
  cell_inside =
      let k = d.means r.thing r.shown r.charged in
      let p = part-is {x = get_cell l1 part} k.rest k.shown h refl in
      omega (arith, p.cell.inside, laid-room k.laid, r.room, d.long)

  module _ {x : Cell} (e : x ≡ get_cell l1 part) where
    pub head-reached : Reached lv l1 end x.head
    head-reached =
        let k = d.means r.thing r.shown r.charged in
        let p = part-is k.rest k.shown h e in
        let z : sizes k.rest ≡ size p.first + sizes p.others = ap sizes p.is ∙ sizes-cons p.first p.others in
        let n = ap nestings p.is ∙ nestings-cons p.first p.others in
        record {
          object = record {
            thing = p.first;
            shown = p.cell.shown;
            charged = omega (arith, laid-room k.laid, laid-grows k.laid, r.charged);
            room = omega (arith, laid-room k.laid, r.room, d.long);
            small = omega (arith, r.small, d.long);
            low = omega (arith, r.low, d.grows);
          };
          flat = omega (arith, r.flat, laid-flat k.laid, n);
        }

    pub head-falls : {t : ℕ} → 2 * lv + 1 ≡ t → 2 * lv < t
    head-falls m = omega arith

    pub tail_falls : x.tail < part
    tail_falls =
        let k = d.means r.thing r.shown r.charged in
        let p = part-is k.rest k.shown h e in
        omega (arith, p.cell.low)

    pub part_passed : {l2 : List ℕ} {at end2 : ℕ} → CopiedBy w l1 l2 end x.head at end2 → length l2 ≡ length l1 → Passing w l l2 top c end2 x.tail
    part_passed {l2} {at} {end2} m len =
        record {
          long = len ∙ d.long;
          kept = same_trans top end l l1 l2 d.grows d.kept m.kept;
          grows = omega (arith, d.grows, m.grows);
          means = λ ps u few.
              let k = d.means ps u few in
              let p = part-is k.rest k.shown h e in
              let z : sizes k.rest ≡ size p.first + sizes p.others = ap sizes p.is ∙ sizes-cons p.first p.others in
              let less : size p.first ≤ most_budget = omega (arith, laid-room k.laid, laid-grows k.laid) in
              let a = m.means p.first p.cell.shown less in
              record {
                rest = p.others;
                shown = carry_p p.cell.shown-others m.kept m.grows;
                laid = laid_one (laid_stays (rw p.is at k.laid) m.kept) m.last a.room a.shown;
              };
        }

pub ruleset laws = (object-inside, levels-left, atom_puttable, list-reached, list-falls, parts_row, list_puttable, atom-copied, list_copied, none_passed, all_passed, cell_inside, head-reached, head-falls, tail_falls, part_passed)
