-- first, rest and link: one law for each way out.
use mathlib.Core.Path.{◌≡◌, refl, ap, ◌∙◌}
use mathlib.Core.List.{List}
use mathlib.Core.Option.{none}
use Prim.Native.Nat.{ℕ, ◌+◌, ◌≤◌}
use native.Mathlib.Omega.{arith}
use lib.ListN.{length}
use Rattle.std.specs.Prelude.{Some, None}
use Rattle.model.specs.Trees.{Tree, tcons, lst, as_list}
use Rattle.model.specs.Evaluating.{primitive, first_of, rest_of}
use Rattle.table.specs.Tags.{list_value_tag}
use Rattle.table.specs.Words.{get_node, get_cell}
use Rattle.table.specs.declared.Node.{Node}
use Rattle.table.specs.declared.Cell.{Cell}
use Rattle.table.proofs.Laws.{same_trans}
use Rattle.things.specs.Rep.{Rep, is-var, is-app, is-fun, is-lst, is-datum, is-atom, is-list}
use Rattle.things.specs.Making.{Roomy, Stored, Linkable, Linked}
use Rattle.things.specs.declared.Made.{Made}
use Rattle.things.proofs.ByTag.{tag_is, lst-at, part_at, none-at}
use Rattle.things.proofs.Making.{made-lst}
use Rattle.primitives.specs.Working.{ReadyToApply, wrong, piece, Does1, Does2, first, rest, linked}
use Rattle.primitives.proofs.Common.{node-room, read-inside, found, added}
use Rattle.table.specs.Sizes.{cell_size, node_size}

not-list : {l : List ℕ} {top i : ℕ} {p : Node} {t : Tree} → p ≡ get_node l i → Rep l top i t → ¬ (p.tag ≡ list_value_tag) → as_list t ≡ none
unfolding as_list
not-list e (is-var a q) h = refl
not-list e (is-app a q r) h = refl
not-list e (is-fun a q y r) h = refl
not-list e (is-datum a q) h = refl
not-list e (is-lst a q r) h = absurd (h (tag_is e q))
not-list e (is-atom a q y) h = refl
not-list e (is-list a q y r) h = refl

-- ---- first and rest

module _ {l : List ℕ} {top x : ℕ} {p : Node} (e : p ≡ get_node l x) where
  pub first-wrong : ¬ (p.tag ≡ list_value_tag) → Does1 first l l top x None
  unfolding first primitive
  first-wrong h = record { means = λ t r. wrong (rw (not-list e r h) refl) }

  pub rest-wrong : ¬ (p.tag ≡ list_value_tag) → Does1 rest l l top x None
  unfolding rest primitive
  rest-wrong h = record { means = λ t r. wrong (rw (not-list e r h) refl) }

  module _ (h : p.tag ≡ list_value_tag) where
    pub first-empty : p.content ≡ 0 → Does1 first l l top x None
    unfolding first primitive as_list first_of
    first-empty k = record { means = λ t r. let w = lst-at r e h in wrong (ap first (w.is ∙ ap lst (none-at w.shown k))) }

    pub rest-empty : p.content ≡ 0 → Does1 rest l l top x None
    unfolding rest primitive as_list rest_of
    rest-empty k = record { means = λ t r. let w = lst-at r e h in wrong (ap rest (w.is ∙ ap lst (none-at w.shown k))) }

    pub chain-inside : ReadyToApply l top x → ¬ (p.content ≡ 0) → p.content + cell_size ≤ length l
    chain-inside r n = let w = lst-at r.shown e h in omega (arith, (part_at w.shown n refl).cell.inside, r.room.fits)

    module _ (n : ¬ (p.content ≡ 0)) {cell : Cell} (k : cell ≡ get_cell l p.content) where
      pub first-is : Does1 first l l top x (Some (record { at = cell.head; top = top }))
      unfolding first primitive as_list first_of
      first-is =
          record {
            means = λ t r.
                let w = lst-at r e h in
                let a = part_at w.shown n k in
                found cell.head a.first (ap first (w.is ∙ ap lst a.is)) a.cell.shown;
          }

      pub rest-is : {l1 : List ℕ} {m : Made} → Stored l l1 top (record { tag = list_value_tag; content = cell.tail }) m.at m.top → Does1 rest l l1 top x (Some m)
      unfolding rest primitive as_list rest_of
      rest-is {l1} {m} d =
          record {
            means = λ t r.
                let w = lst-at r e h in
                let a = part_at w.shown n k in
                added (lst a.others) (ap rest (w.is ∙ ap lst a.is)) (made-lst d a.cell.shown-others) d;
          }

-- ---- link

module _ {l : List ℕ} {top x y : ℕ} {p : Node} (e : p ≡ get_node l y) where
  pub link-wrong : ¬ (p.tag ≡ list_value_tag) → Does2 linked l l top x y None
  unfolding linked primitive
  link-wrong h = record { means = λ t u a b. wrong (rw (not-list e b h) refl) }

  module _ (h : p.tag ≡ list_value_tag) where
    pub link-ready : ReadyToApply l top x → ReadyToApply l top y → Linkable l top x p.content
    link-ready r q =
        let w = lst-at q.shown e h in
        record {
          thing = r.thing;
          others = w.parts;
          shown = r.shown;
          shown-others = w.shown;
          room = record { fits = omega (arith, r.room.fits); small = r.room.small; low = r.room.low };
        }

    pub link-is : {l1 l2 : List ℕ} {at1 top1 : ℕ} {m : Made} → Linked l l1 top x p.content at1 top1
        → Stored l1 l2 top1 (record { tag = list_value_tag; content = at1 }) m.at m.top → Does2 linked l l2 top x y (Some m)
    unfolding linked primitive as_list
    link-is {l1} {l2} {at1} {top1} {m} k d =
        record {
          means = λ t u a b.
              let w = lst-at b e h in
              piece m (lst (tcons t w.parts)) (ap (linked t) w.is) (made-lst d (k.means t w.parts a w.shown))
              (same_trans top top1 l l1 l2 (omega (arith, k.grows)) k.kept d.kept) (omega (arith, k.grows, d.grows)) (omega (arith, k.grows, d.grows));
        }

pub link-room : {l l1 : List ℕ} {top x c at1 top1 : ℕ} → ReadyToApply l top x → Linked l l1 top x c at1 top1 → length l1 ≡ length l → Roomy l1 top1 node_size
link-room r k len = record { fits = omega (arith, r.room.fits, k.grows); small = omega (arith, r.room.small); low = omega (arith, r.room.low, k.grows) }

pub ruleset laws = (node-room, read-inside, first-wrong, rest-wrong, first-empty, rest-empty, chain-inside, first-is, rest-is, link-wrong, link-ready, link-is, link-room)
