-- Kinds of arguments: one law for each way out; and what a caller knows of each.
use mathlib.Core.Path.{◌≡◌, refl, ap, ◌∙◌}
use mathlib.Core.Bool.{Bool, true, false, not, true≢false, false≢true}
use mathlib.Core.List.{List, [], ◌∷◌}
use mathlib.Core.Option.{none, some}
use Prim.Native.Nat.{ℕ, ◌+◌, ◌≤◌, ◌<◌}
use native.Mathlib.Omega.{arith}
use borrow.Author.Tests.{eqb-true, eqb-false, leb-true, leb-false, not-true, not-false}
use lib.Dec.{eqb, leb}
use lib.ListN.{length}
use Rattle.std.specs.Prelude as std
use Rattle.std.specs.Prelude.{Some, None}
use Rattle.model.specs.Choice.{given}
use Rattle.model.specs.Objects.{symbol, number, point, prim, rung, tag_of, Stx, atom, list}
use Rattle.model.specs.Trees.{Tree, stx, Trees, tnil, tcons, lst, as_stx, as_list}
use Rattle.model.specs.Evaluating.{Id, id_of, as_id, as_ids}
use Rattle.table.specs.Sizes.{cell_size}
use Rattle.table.specs.Tags.{list_tag, list_value_tag}
use Rattle.table.specs.Words.{get_node, get_cell}
use Rattle.table.specs.declared.Node.{Node}
use Rattle.table.specs.declared.Cell.{Cell}
use Rattle.things.specs.Rep.{Rep, RepP, is-var, is-app, is-fun, is-lst, is-datum, is-atom, is-list}
use Rattle.things.specs.Measuring.{Seen, SeenP}
use Rattle.things.proofs.ByTag.{tag_is, lst-at, not-syntax, part_at, none-at}
use Rattle.things.proofs.Measuring.{node-inside, cell_inside, tail_seen}
use Rattle.asking.specs.Kinds.{ObjectAt, IdAt, AreIds, IsObject, IsId, AllIds, IdsAt, ListedAs, ListedIs, ListsIds}

-- ---- an object

object-at : {l : List ℕ} {top i : ℕ} {o : Node} {t : Tree} → Rep l top i t → o ≡ get_node l i → o.tag ≤ list_tag → ObjectAt t
object-at (is-var a q) e h = absurd (omega (arith, tag_is e q))
object-at (is-app a q r) e h = absurd (omega (arith, tag_is e q))
object-at (is-fun a q y r) e h = absurd (omega (arith, tag_is e q))
object-at (is-datum a q) e h = absurd (omega (arith, tag_is e q))
object-at (is-lst a q r) e h = absurd (omega (arith, tag_is e q))
object-at (is-atom {s = s} {a = x} a q y) e h = record { object = atom s x; is = refl }
object-at (is-list {s = s} {ps = ps} a q y r) e h = record { object = list s ps; is = refl }

pub object-told : {l : List ℕ} {i : ℕ} {o : Node} → o ≡ get_node l i → IsObject l i (leb o.tag list_tag)
object-told e = record {
  yes = λ h top t r. object-at r e (leb-true _ _ h);
  no = λ h top t r. not-syntax r e (leb-false _ _ h);
}

-- ---- an identifier

id-at : {l : List ℕ} {top i : ℕ} {o : Node} {t : Tree} → Rep l top i t → o ≡ get_node l i → o.tag ≡ 0 → IdAt t
unfolding tag_of
id-at (is-var a q) e h = absurd (omega (arith, tag_is e q))
id-at (is-app a q r) e h = absurd (omega (arith, tag_is e q))
id-at (is-fun a q y r) e h = absurd (omega (arith, tag_is e q))
id-at (is-datum a q) e h = absurd (omega (arith, tag_is e q))
id-at (is-lst a q r) e h = absurd (omega (arith, tag_is e q))
id-at (is-atom {s = s} {a = symbol x} a q y) e h = record { id = record { sets = s; symb = x }; is = refl }
id-at (is-atom {a = number x} a q y) e h = absurd (omega (arith, tag_is e q))
id-at (is-atom {a = point x} a q y) e h = absurd (omega (arith, tag_is e q))
id-at (is-atom {a = prim x} a q y) e h = absurd (omega (arith, tag_is e q))
id-at (is-atom {a = rung x} a q y) e h = absurd (omega (arith, tag_is e q))
id-at (is-list a q y r) e h = absurd (omega (arith, tag_is e q))

not-id : {l : List ℕ} {top i : ℕ} {o : Node} {t : Tree} → Rep l top i t → o ≡ get_node l i → ¬ (o.tag ≡ 0) → as_id t ≡ none
unfolding as_id id_of as_stx tag_of
not-id (is-var a q) e h = refl
not-id (is-app a q r) e h = refl
not-id (is-fun a q y r) e h = refl
not-id (is-datum a q) e h = refl
not-id (is-lst a q r) e h = refl
not-id (is-atom {a = symbol x} a q y) e h = absurd (h (tag_is e q))
not-id (is-atom {a = number x} a q y) e h = refl
not-id (is-atom {a = point x} a q y) e h = refl
not-id (is-atom {a = prim x} a q y) e h = refl
not-id (is-atom {a = rung x} a q y) e h = refl
not-id (is-list a q y r) e h = refl

pub id-told : {l : List ℕ} {i : ℕ} {o : Node} → o ≡ get_node l i → IsId l i (eqb o.tag 0)
id-told e = record {
  yes = λ h top t r. id-at r e (eqb-true _ _ h);
  no = λ h top t r. not-id r e (eqb-false _ _ h);
}

-- of one the kind is right
pub id_as : {t : Tree} (i : IdAt t) → as_id t ≡ some i.id
unfolding as_id id_of as_stx
id_as i = ap as_id i.is

-- and what has the kind is one
id_of_lem : (x : Stx) {i : Id} → id_of x ≡ some i → x ≡ atom i.sets (symbol i.symb)
unfolding id_of
id_of_lem (atom c (symbol x)) e = let z : _ = e in cc
id_of_lem (atom c (number x)) e = let z : ◌≡◌ {A = ℕ} 0 1 = cc in absurd (omega arith)
id_of_lem (atom c (point x)) e = let z : ◌≡◌ {A = ℕ} 0 1 = cc in absurd (omega arith)
id_of_lem (atom c (prim x)) e = let z : ◌≡◌ {A = ℕ} 0 1 = cc in absurd (omega arith)
id_of_lem (atom c (rung x)) e = let z : ◌≡◌ {A = ℕ} 0 1 = cc in absurd (omega arith)
id_of_lem (list c l) e = let z : ◌≡◌ {A = ℕ} 0 1 = cc in absurd (omega arith)

pub id_back : (t : Tree) {i : Id} → as_id t ≡ some i → t ≡ stx (atom i.sets (symbol i.symb))
unfolding as_id as_stx
id_back (Tree.var n) e = let z : ◌≡◌ {A = ℕ} 0 1 = cc in absurd (omega arith)
id_back (Tree.app h l) e = let z : ◌≡◌ {A = ℕ} 0 1 = cc in absurd (omega arith)
id_back (Tree.fun n b) e = let z : ◌≡◌ {A = ℕ} 0 1 = cc in absurd (omega arith)
id_back (Tree.datum a) e = let z : ◌≡◌ {A = ℕ} 0 1 = cc in absurd (omega arith)
id_back (lst l) e = let z : ◌≡◌ {A = ℕ} 0 1 = cc in absurd (omega arith)
id_back (stx x) e = ap stx (id_of_lem x e)

-- ---- a chain of identifiers

pub ids-none : as_ids tnil ≡ some []
unfolding as_ids
ids-none = refl

ids_more : (t : Tree) (ts : Trees) {i : Id} {r : List Id} → as_id t ≡ some i → as_ids ts ≡ some r → as_ids (tcons t ts) ≡ some (i ∷ r)
unfolding as_ids
ids_more t ts e f = rw (e, f) refl

ids_not_first : (t : Tree) (ts : Trees) → as_id t ≡ none → as_ids (tcons t ts) ≡ none
unfolding as_ids
ids_not_first t ts e = rw e refl

ids_not_others : (t : Tree) (ts : Trees) {i : Id} → as_id t ≡ some i → as_ids ts ≡ none → as_ids (tcons t ts) ≡ none
unfolding as_ids
ids_not_others t ts e f = rw (e, f) refl

-- what is left, from k on: the kind of the whole is by it
pub record IdsLeft (l : List ℕ) (top k : ℕ) (ts : Trees) : Type 0 where
  pub rest : Trees
  pub shown : RepP l top k rest
  pub some_if : AreIds rest → AreIds ts
  pub none_if : as_ids rest ≡ none → as_ids ts ≡ none

pub record Passing (l : List ℕ) (c k : ℕ) : Type 0 where
  pub seen : SeenP l k
  pub means : (top : ℕ) (ts : Trees) → RepP l top c ts → IdsLeft l top k ts

pub passing-start : {l : List ℕ} {c : ℕ} → SeenP l c → Passing l c c
passing-start s = record { seen = s; means = λ top ts r. record { rest = ts; shown = r; some_if = λ a. a; none_if = λ e. e } }

module _ {l : List ℕ} {c k : ℕ} (w : Passing l c k) where
  pub passing-ended : k ≡ 0 → AllIds l c true
  passing-ended h = record {
    yes = λ e top ts r. let q = w.means top ts r in q.some_if (record { ids = []; is = ap as_ids (none-at q.shown h) ∙ ids-none });
    no = λ e top ts r. absurd (true≢false e);
  }

  module _ (n : ¬ (k ≡ 0)) where
    pub passing-inside : k + cell_size ≤ length l
    passing-inside = cell_inside w.seen n

    module _ {x : Cell} (e : x ≡ get_cell l k) where
      pub passing-seen : Seen l x.head
      passing-seen =
          let s = w.seen in
          let p = part_at s.shown n e in
          record { top = s.top; thing = p.first; shown = p.cell.shown; inside = s.inside; small = s.small }

      pub passing_less : x.tail < k
      passing_less = (part_at w.seen.shown n e).cell.low.1

      module _ {t : Bool} (i : IsId l x.head t) where
        pub passing-not : not t ≡ true → AllIds l c false
        passing-not g = let h : t ≡ false = not-true t g in record {
          yes = λ z top ts r. absurd (false≢true z);
          no = λ z top ts r.
              let q = w.means top ts r in
              let p = part_at q.shown n e in
              q.none_if (ap as_ids p.is ∙ ids_not_first p.first p.others (i.no h top p.first p.cell.shown));
        }

        pub passing-more : not t ≡ false → Passing l c x.tail
        passing-more g = let h : t ≡ true = not-false t g in record {
          seen = tail_seen n e w.seen;
          means = λ top ts r.
              let q = w.means top ts r in
              let p = part_at q.shown n e in
              let d = i.yes h top p.first p.cell.shown in
              record {
                rest = p.others;
                shown = p.cell.shown-others;
                some_if = λ a. q.some_if (record { ids = d.id ∷ a.ids; is = ap as_ids p.is ∙ ids_more p.first p.others (id_as d) a.is });
                none_if = λ z. q.none_if (ap as_ids p.is ∙ ids_not_others p.first p.others (id_as d) z);
              };
        }

-- ---- a list of identifiers

not-list : {l : List ℕ} {top i : ℕ} {o : Node} {t : Tree} → Rep l top i t → o ≡ get_node l i → ¬ (o.tag ≡ list_value_tag) → given (as_list t) as_ids ≡ none
unfolding as_list
not-list (is-var a q) e h = refl
not-list (is-app a q r) e h = refl
not-list (is-fun a q y r) e h = refl
not-list (is-datum a q) e h = refl
not-list (is-lst a q r) e h = absurd (h (tag_is e q))
not-list (is-atom {a = x} a q y) e h = refl
not-list (is-list a q y r) e h = refl

list_as : (ts : Trees) → given (as_list (lst ts)) as_ids ≡ as_ids ts
unfolding as_list
list_as ts = refl

module _ {l : List ℕ} {i : ℕ} {o : Node} (e : o ≡ get_node l i) where
  pub listed-not : ¬ (o.tag ≡ list_value_tag) → ListsIds l i None
  unfolding ListedAs
  listed-not h = record { means = λ top t r. record { told = not-list r e h } }

  module _ (h : o.tag ≡ list_value_tag) where
    pub listed-seen : Seen l i → SeenP l o.content
    listed-seen s =
        let p = lst-at s.shown e h in
        record { top = s.top; thing = p.parts; shown = p.shown; inside = s.inside; small = s.small }

    module _ {t : Bool} (a : AllIds l o.content t) where
      pub listed-others : not t ≡ true → ListsIds l i None
      unfolding ListedAs
      listed-others g = let z : t ≡ false = not-true t g in record {
        means = λ top t r.
            let p = lst-at r e h in
            record { told = ap (λ (y : Tree). given (as_list y) as_ids) p.is ∙ list_as p.parts ∙ a.no z top p.parts p.shown };
      }

      pub listed-ids : not t ≡ false → ListsIds l i (Some o.content)
      unfolding ListedAs
      listed-ids g = let z : t ≡ true = not-false t g in record {
        means = λ top t r.
            let p = lst-at r e h in
            let q = a.yes z top p.parts p.shown in
            record { told = record { parts = p.parts; ids = q.ids; shown = p.shown; are = q.is; is = ap (λ (y : Tree). given (as_list y) as_ids) p.is ∙ list_as p.parts ∙ q.is } };
      }

pub ruleset laws = (node-inside, object-told, id-told, passing-start, passing-ended, passing-inside, passing-seen, passing_less, passing-not, passing-more, listed-not, listed-seen, listed-others, listed-ids)

-- ---- what a caller knows

told_as : {l : List ℕ} {top : ℕ} {r s : std.Option ℕ} {t : Tree} → ListedIs l top r t → r ≡ s → ListedAs l top s t
told_as a e = rw e at a.told

module _ {l : List ℕ} {top : ℕ} {r : std.Option ℕ} {t : Tree} (a : ListedIs l top r t) where
  pub on_ids : {c : ℕ} → r ≡ Some c → IdsAt l top c t
  unfolding ListedAs
  on_ids e = told_as a e

  pub on_no_ids : r ≡ None → given (as_list t) as_ids ≡ none
  unfolding ListedAs
  on_no_ids e = told_as a e
