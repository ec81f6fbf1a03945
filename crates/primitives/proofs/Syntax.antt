-- stx-e and mk-stx: one law for each way out.
use mathlib.Core.Path.{◌≡◌, refl, ap, ◌∙◌}
use mathlib.Core.List.{List}
use mathlib.Core.Bool.{Bool, true, false}
use mathlib.Core.Option.{Option, none, some}
use Prim.Native.Nat.{ℕ, ◌+◌, ◌-◌, ◌≤◌, ◌<◌}
use native.Mathlib.Omega.{arith}
use lib.ListN.{length}
use Rattle.std.specs.Prelude.{Some, None}
use Rattle.model.specs.Choice.{given}
use Rattle.model.specs.Objects as m
use Rattle.model.specs.Objects.{Atom, Stx, Stxs, tag_of, content_of, atom, list}
use Rattle.model.specs.Trees.{Tree, Trees, tcons, datum, lst, stx, as_stx, from_stxs, to_stxs}
use Rattle.model.specs.Evaluating as v
use Rattle.model.specs.Evaluating.{primitive, content, remade}
use Rattle.table.specs.Tags.{list_tag, list_value_tag, atom_value_tag}
use Rattle.table.specs.Words.{get_node, get_sets, get_cell}
use Rattle.table.specs.declared.Node.{Node}
use Rattle.table.specs.declared.Sets.{Sets}
use Rattle.table.specs.declared.Cell.{Cell}
use Rattle.things.specs.Rep.{Rep, RepP, is-var, is-app, is-fun, is-lst, is-datum, is-atom, is-list, sets_of}
use Rattle.things.specs.Measuring.{SeenP}
use Rattle.things.specs.Making.{Stored, StoredObject}
use Rattle.things.specs.declared.Made.{Made}
use Rattle.things.proofs.Frame.{below}
use Rattle.things.proofs.ByTag.{tag_is, not-syntax, lst-at, datum-at, atom-at, list_at, part_at, none-at}
use Rattle.things.proofs.Making.{made-lst, made-datum, made-atom, made_list}
use Rattle.things.proofs.Measuring.{cell_inside}
use Rattle.primitives.specs.Working.{ReadyToApply, wrong, Does1, Does2, stx_e, mk_stx, Opened, all, other, AllSyntax}
use Rattle.primitives.proofs.Common.{node-room, read-inside, added, renamed}
use Rattle.table.specs.Sizes.{cell_size, node_size}

-- ---- stx-e

module _ {l : List ℕ} {top x : ℕ} {p : Node} (e : p ≡ get_node l x) where
  pub open_wrong : list_tag ≤ p.tag → ¬ (p.tag ≡ list_tag) → Does1 stx_e l l top x None
  unfolding stx_e primitive
  open_wrong h k = record { means = λ t r. let n : list_tag < p.tag = omega (arith, k) in wrong (rw (not-syntax r e n) refl) }

  pub open_atom : {l1 : List ℕ} {d : Made} → p.tag < list_tag → Stored l l1 top (record { tag = atom_value_tag + p.tag; content = p.content }) d.at d.top → Does1 stx_e l l1 top x (Some d)
  unfolding stx_e primitive as_stx content
  open_atom {l1} {d} h s =
      record {
        means = λ t r.
            let w = atom-at r e h in
            let same : p ≡ record { tag = tag_of w.value; content = content_of w.value } = λ j. record { tag = w.tag j; content = w.content j } in
            added (datum w.value) (ap stx_e w.is) (made-datum w.value (renamed (ap (λ (n : Node). record { tag = atom_value_tag + n.tag; content = n.content }) same) s)) s;
      }

  pub open_list : {l1 : List ℕ} {d : Made} → p.tag ≡ list_tag → Stored l l1 top (record { tag = list_value_tag; content = p.content }) d.at d.top → Does1 stx_e l l1 top x (Some d)
  unfolding stx_e primitive as_stx content
  open_list {l1} {d} h s =
      record { means = λ t r. let w = list_at r e h in added (lst (from_stxs w.parts)) (ap stx_e w.is) (made-lst s w.shown) s }

-- ---- all_syntax

record SyntaxAt (l : List ℕ) (i : ℕ) (t : Tree) : Type 0 where
  it : Stx
  is : t ≡ stx it
  sets : sets_of (get_sets l i) ≡ v.sets_of it

syntax-at : {l : List ℕ} {top i : ℕ} {p : Node} {t : Tree} → Rep l top i t → p ≡ get_node l i → p.tag ≤ list_tag → SyntaxAt l i t
unfolding v.sets_of
syntax-at (is-var a q) e h = absurd (omega (arith, tag_is e q))
syntax-at (is-app a q r) e h = absurd (omega (arith, tag_is e q))
syntax-at (is-fun a q y r) e h = absurd (omega (arith, tag_is e q))
syntax-at (is-datum a q) e h = absurd (omega (arith, tag_is e q))
syntax-at (is-lst a q r) e h = absurd (omega (arith, tag_is e q))
syntax-at (is-atom {s = s} {a = x} a q y) e h = record { it = atom s x; is = refl; sets = y }
syntax-at (is-list {s = s} {ps = ps} a q y r) e h = record { it = list s ps; is = refl; sets = y }

more : {y : Bool} (t : Tree) (ts : Trees) (s : Stx) → t ≡ stx s → Opened ts y → Opened (tcons t ts) y
unfolding to_stxs from_stxs as_stx
more t ts s e (all ps f g) = all (m.cons s ps) (rw (e, f) refl) (rw (e, g) refl)
more t ts s e (other g) = other (rw (e, g) refl)

-- the scan of the chain c has come to `at`, and what holds from there on holds of the whole
pub record Scanned (l : List ℕ) (c at : ℕ) : Type 0 where
  pub seen : SeenP l at
  pub back : (r : Bool) → AllSyntax l at r → AllSyntax l c r

pub scan-start : {l : List ℕ} {c : ℕ} → SeenP l c → Scanned l c c
scan-start s = record { seen = s; back = λ r d. d }

module _ {l : List ℕ} {c at : ℕ} (s : Scanned l c at) where
  pub scan-end : at ≡ 0 → AllSyntax l c true
  unfolding to_stxs from_stxs
  scan-end h = s.back true (record { means = λ top ts r. rw (none-at r h) (all m.nil refl refl) })

  module _ (h : ¬ (at ≡ 0)) where
    pub scan-inside : at + cell_size ≤ length l
    scan-inside = cell_inside s.seen h

    module _ {x : Cell} (e : x ≡ get_cell l at) where
      pub scan-head : x.head + node_size ≤ length l
      scan-head = omega (arith, below (part_at s.seen.shown h e).cell.shown, s.seen.inside)

      pub scan_less : x.tail < at
      scan_less = omega (arith, (part_at s.seen.shown h e).cell.low)

      module _ {p : Node} (k : p ≡ get_node l x.head) where
        pub scan-wrong : list_tag < p.tag → AllSyntax l c false
        unfolding to_stxs
        scan-wrong n = s.back false (record { means = λ top ts r. let w = part_at r h e in rw w.is (other (rw (not-syntax w.cell.shown k n) refl)) })

        pub scan-next : p.tag ≤ list_tag → Scanned l c x.tail
        scan-next n =
            let w = part_at s.seen.shown h e in
            record {
              seen = record { top = s.seen.top; thing = w.others; shown = w.cell.shown-others; inside = s.seen.inside; small = s.seen.small };
              back = λ r d.
                  s.back r (record {
                    means = λ top ts u.
                        let y = part_at u h e in
                        let a = syntax-at y.cell.shown k n in
                        rw y.is (more y.first y.others a.it a.is (d.means top y.others y.cell.shown-others));
                  });
            }

-- ---- mk-stx

closes_none : (t u : Tree) → ((c : m.Sets) → remade c t ≡ none) → mk_stx t u ≡ none
unfolding mk_stx primitive
closes_none t u f = go (as_stx u)
  where
    go : (o : Option Stx) → given o (λ s. given (remade (v.sets_of s) t) (λ r. some (stx r))) ≡ none
    go none = refl
    go (some s) = rw (f (v.sets_of s)) refl

closes_some : (t u : Tree) (s r : Stx) → u ≡ stx s → remade (v.sets_of s) t ≡ some r → mk_stx t u ≡ some (stx r)
unfolding mk_stx primitive as_stx
closes_some t u s r e f = ap (mk_stx t) e ∙ rw f refl

opened : {ts : Trees} {y : Bool} → Opened ts y → y ≡ true → (ps : Stxs) × ((ts ≡ from_stxs ps) × (to_stxs ts ≡ some ps))
opened (all ps f g) e = (ps, (f, g))
opened (other g) e = let z : ◌≡◌ {A = ℕ} 0 1 = cc in absurd (omega arith)

not_opened : {ts : Trees} {y : Bool} → Opened ts y → y ≡ false → to_stxs ts ≡ none
not_opened (all ps f g) e = let z : ◌≡◌ {A = ℕ} 0 1 = cc in absurd (omega arith)
not_opened (other g) e = g

no_value : {l : List ℕ} {top i : ℕ} {p : Node} {t : Tree} (c : m.Sets) → Rep l top i t → p ≡ get_node l i → ¬ (p.tag ≡ list_value_tag) → p.tag < atom_value_tag → remade c t ≡ none
unfolding remade
no_value c (is-var a q) e h k = refl
no_value c (is-app a q r) e h k = refl
no_value c (is-fun a q y r) e h k = refl
no_value c (is-datum a q) e h k = absurd (omega (arith, tag_is e q))
no_value c (is-lst a q r) e h k = absurd (h (tag_is e q))
no_value c (is-atom a q y) e h k = refl
no_value c (is-list a q y r) e h k = refl

remade-list : (c : m.Sets) (ts : Trees) (ps : Stxs) → to_stxs ts ≡ some ps → remade c (lst ts) ≡ some (list c ps)
unfolding remade
remade-list c ts ps e = rw e refl

remade-none : (c : m.Sets) (ts : Trees) → to_stxs ts ≡ none → remade c (lst ts) ≡ none
unfolding remade
remade-none c ts e = rw e refl

remade-atom : (c : m.Sets) (a : Atom) → remade c (datum a) ≡ some (atom c a)
unfolding remade
remade-atom c a = refl

pub close_wrong : {l : List ℕ} {top x y : ℕ} {s : Node} → s ≡ get_node l y → list_tag < s.tag → Does2 mk_stx l l top x y None
unfolding mk_stx primitive
close_wrong e h = record { means = λ t u a b. wrong (rw (not-syntax b e h) refl) }

pub close_seen : {l : List ℕ} {top x : ℕ} {p : Node} → p ≡ get_node l x → ReadyToApply l top x → p.tag ≡ list_value_tag → SeenP l p.content
close_seen {top = top} k r h =
    let w = lst-at r.shown k h in record { top = top; thing = w.parts; shown = w.shown; inside = omega (arith, r.room.fits); small = r.room.small }

module _ {l : List ℕ} {top x y : ℕ} {p : Node} (k : p ≡ get_node l x) where
  pub close_value : ¬ (p.tag ≡ list_value_tag) → p.tag < atom_value_tag → Does2 mk_stx l l top x y None
  close_value h n = record { means = λ t u a b. wrong (closes_none t u (λ c. no_value c a k h n)) }

  pub close_parts : {z : Bool} → p.tag ≡ list_value_tag → AllSyntax l p.content z → z ≡ false → Does2 mk_stx l l top x y None
  close_parts h d n =
      record {
        means = λ t u a b.
            let w = lst-at a k h in
            wrong (closes_none t u (λ c. ap (remade c) w.is ∙ remade-none c w.parts (not_opened (d.means top w.parts w.shown) n)));
      }

  module _ {s : Node} {c : Sets} (e : s ≡ get_node l y) (f : s.tag ≤ list_tag) (g : c ≡ get_sets l y) {l1 : List ℕ} {j : Made} where
    pub close_list : {z : Bool} → p.tag ≡ list_value_tag → AllSyntax l p.content z → z ≡ true
        → StoredObject l l1 top (record { tag = list_tag; content = p.content }) c j.at j.top → Does2 mk_stx l l1 top x y (Some j)
    close_list h d n o =
        record {
          means = λ t u a b.
              let w = lst-at a k h in
              let i = syntax-at b e f in
              let q = opened (d.means top w.parts w.shown) n in
              let shown : RepP l top p.content (from_stxs q.0) = rw q.1.0 at w.shown in
              added (stx (list (v.sets_of i.it) q.0))
              (closes_some t u i.it (list (v.sets_of i.it) q.0) i.is (ap (remade (v.sets_of i.it)) w.is ∙ remade-list (v.sets_of i.it) w.parts q.0 q.1.1))
              (made_list (ap sets_of g ∙ i.sets) o shown) o.stored;
        }

    pub close_atom : atom_value_tag ≤ p.tag → StoredObject l l1 top (record { tag = p.tag - atom_value_tag; content = p.content }) c j.at j.top → Does2 mk_stx l l1 top x y (Some j)
    close_atom h o =
        record {
          means = λ t u a b.
              let w = datum-at a k h in
              let i = syntax-at b e f in
              let tag : p.tag - atom_value_tag ≡ tag_of w.value = omega (arith, w.tag) in
              let o2 : StoredObject l l1 top (record { tag = tag_of w.value; content = content_of w.value }) c j.at j.top =
              record { stored = renamed (λ i. record { tag = tag i; content = w.content i }) o.stored; sets = o.sets } in
              added (stx (atom (v.sets_of i.it) w.value))
              (closes_some t u i.it (atom (v.sets_of i.it) w.value) i.is (ap (remade (v.sets_of i.it)) w.is ∙ remade-atom (v.sets_of i.it) w.value))
              (made-atom w.value (ap sets_of g ∙ i.sets) o2) o.stored;
        }

pub ruleset laws = (node-room, read-inside, open_wrong, open_atom, open_list, scan-start, scan-end, scan-inside, scan-head, scan_less, scan-wrong, scan-next, close_wrong, close_seen, close_value, close_parts, close_list, close_atom)
