-- What stands at an index, by the tag of its node; and at a cell. The premise is always that the node or cell was read there.
use mathlib.Core.Path.{◌≡◌, refl, sym, ap, ◌∙◌}
use mathlib.Core.List.{List}
use mathlib.Core.Option.{none}
use Prim.Native.Nat.{ℕ, ◌+◌, ◌≤◌, ◌<◌, min}
use native.Mathlib.Omega.{arith}
use Rattle.model.specs.Objects as m
use Rattle.model.specs.Objects.{Atom, tag_of, content_of, Stx, Stxs, nil, cons, atom, list}
use Rattle.model.specs.Trees.{Tree, Trees, var, app, fun, datum, lst, stx, tnil, tcons, from_stxs, as_stx, tsize, tnesting, tnestings}
use Rattle.table.specs.Tags.{list_tag, variable_tag, application_tag, function_tag, list_value_tag, atom_value_tag}
use Rattle.table.specs.Words.{get_node, get_sets, get_body, get_cell}
use Rattle.table.specs.declared.Node.{Node}
use Rattle.table.specs.declared.Body.{Body}
use Rattle.table.specs.declared.Cell.{Cell}
use Rattle.things.specs.Rep.{Rep, RepP, is-var, is-app, is-fun, is-lst, is-datum, is-atom, is-list, is_none, is-part, sets_of}
use Rattle.things.specs.Weights.{tsizes, weights}
use Rattle.things.proofs.Frame.{below, below_p, up, up_p, deep}
use Rattle.table.specs.Sizes.{cell_size, node_size, most_size}

pub tag-low : (a : Atom) → tag_of a < list_tag
unfolding tag_of
tag-low (m.symbol x) = omega arith
tag-low (m.number x) = omega arith
tag-low (m.point x) = omega arith
tag-low (m.prim x) = omega arith
tag-low (m.rung x) = omega arith

pub tag_is : {o p q : Node} → o ≡ q → q ≡ p → o.tag ≡ p.tag
tag_is e f = ap (λ (x : Node). x.tag) (e ∙ f)

pub content-is : {o p q : Node} → o ≡ q → q ≡ p → o.content ≡ p.content
content-is e f = ap (λ (x : Node). x.content) (e ∙ f)

-- ---- trees that are no syntax values

pub var-at : {l : List ℕ} {top i : ℕ} {t : Tree} {o : Node} → Rep l top i t → o ≡ get_node l i → o.tag ≡ variable_tag → t ≡ var o.content
var-at (is-var a q) e h = ap var (sym (content-is e q))
var-at (is-app a q r) e h = absurd (omega (arith, tag_is e q))
var-at (is-fun a q y r) e h = absurd (omega (arith, tag_is e q))
var-at (is-datum {a = x} a q) e h = absurd (omega (arith, tag_is e q))
var-at (is-lst a q r) e h = absurd (omega (arith, tag_is e q))
var-at (is-atom {a = x} a q y) e h = absurd (omega (arith, tag_is e q, tag-low x))
var-at (is-list a q y r) e h = absurd (omega (arith, tag_is e q))

pub record AppAt (l : List ℕ) (top i : ℕ) (o : Node) (t : Tree) : Type 0 where
  pub first : Tree
  pub others : Trees
  pub is : t ≡ app first others
  pub shown : RepP l top o.content (tcons first others)
  pub low : o.content < i + 1

pub app-at : {l : List ℕ} {top i : ℕ} {t : Tree} {o : Node} → Rep l top i t → o ≡ get_node l i → o.tag ≡ application_tag → AppAt l top i o t
app-at (is-var a q) e h = absurd (omega (arith, tag_is e q))
app-at (is-app {h = f} {ts = ts} a q r) e h =
    record { first = f; others = ts; is = refl; shown = rw (content-is e q) (up_p r (omega arith)); low = rw (content-is e q) (below_p r) }
app-at (is-fun a q y r) e h = absurd (omega (arith, tag_is e q))
app-at (is-datum {a = x} a q) e h = absurd (omega (arith, tag_is e q))
app-at (is-lst a q r) e h = absurd (omega (arith, tag_is e q))
app-at (is-atom {a = x} a q y) e h = absurd (omega (arith, tag_is e q, tag-low x))
app-at (is-list a q y r) e h = absurd (omega (arith, tag_is e q))

-- y is the function's body as read
pub record FunAt (l : List ℕ) (top i : ℕ) (o : Node) (y : Body) (t : Tree) : Type 0 where
  pub body : Tree
  pub is : t ≡ fun o.content body
  pub shown : Rep l top y.at body
  pub size : y.size ≡ min most_size (tsize body)
  pub nesting : y.nesting ≡ tnesting body
  pub low : y.at + node_size ≤ i
  pub flat : tnesting body ≤ i

pub fun-at : {l : List ℕ} {top i : ℕ} {t : Tree} {o : Node} {y : Body} → Rep l top i t → o ≡ get_node l i → o.tag ≡ function_tag → y ≡ get_body l i → FunAt l top i o y t
fun-at (is-var a q) e h f = absurd (omega (arith, tag_is e q))
fun-at (is-app a q r) e h f = absurd (omega (arith, tag_is e q))
fun-at {y = y} (is-fun {b = b} {t = t} a q z r) e h f =
    let at : y.at ≡ b = ap (λ (x : Body). x.at) (f ∙ z) in
    record {
      body = t;
      is = ap (λ (n : ℕ). fun n t) (sym (content-is e q));
      shown = rw at (up r (omega arith));
      size = ap (λ (x : Body). x.size) (f ∙ z);
      nesting = ap (λ (x : Body). x.nesting) (f ∙ z);
      low = rw at (below r);
      flat = deep r;
    }
fun-at (is-datum {a = x} a q) e h f = absurd (omega (arith, tag_is e q))
fun-at (is-lst a q r) e h f = absurd (omega (arith, tag_is e q))
fun-at (is-atom {a = x} a q y) e h f = absurd (omega (arith, tag_is e q, tag-low x))
fun-at (is-list a q y r) e h f = absurd (omega (arith, tag_is e q))

pub record LstAt (l : List ℕ) (top i : ℕ) (o : Node) (t : Tree) : Type 0 where
  pub parts : Trees
  pub is : t ≡ lst parts
  pub shown : RepP l top o.content parts
  pub low : o.content < i + 1

pub lst-at : {l : List ℕ} {top i : ℕ} {t : Tree} {o : Node} → Rep l top i t → o ≡ get_node l i → o.tag ≡ list_value_tag → LstAt l top i o t
lst-at (is-var a q) e h = absurd (omega (arith, tag_is e q))
lst-at (is-app a q r) e h = absurd (omega (arith, tag_is e q))
lst-at (is-fun a q y r) e h = absurd (omega (arith, tag_is e q))
lst-at (is-datum {a = x} a q) e h = absurd (omega (arith, tag_is e q))
lst-at (is-lst {ts = ts} a q r) e h = record { parts = ts; is = refl; shown = rw (content-is e q) (up_p r (omega arith)); low = rw (content-is e q) (below_p r) }
lst-at (is-atom {a = x} a q y) e h = absurd (omega (arith, tag_is e q, tag-low x))
lst-at (is-list a q y r) e h = absurd (omega (arith, tag_is e q))

-- an atom as a value
pub record DatumAt (o : Node) (t : Tree) : Type 0 where
  pub value : Atom
  pub is : t ≡ datum value
  pub tag : o.tag ≡ atom_value_tag + tag_of value
  pub content : o.content ≡ content_of value

pub datum-at : {l : List ℕ} {top i : ℕ} {t : Tree} {o : Node} → Rep l top i t → o ≡ get_node l i → atom_value_tag ≤ o.tag → DatumAt o t
datum-at (is-var a q) e h = absurd (omega (arith, tag_is e q))
datum-at (is-app a q r) e h = absurd (omega (arith, tag_is e q))
datum-at (is-fun a q y r) e h = absurd (omega (arith, tag_is e q))
datum-at (is-datum {a = x} a q) e h = record { value = x; is = refl; tag = tag_is e q; content = content-is e q }
datum-at (is-lst a q r) e h = absurd (omega (arith, tag_is e q))
datum-at (is-atom {a = x} a q y) e h = absurd (omega (arith, tag_is e q, tag-low x))
datum-at (is-list a q y r) e h = absurd (omega (arith, tag_is e q))

-- ---- syntax objects

pub record AtomAt (l : List ℕ) (i : ℕ) (o : Node) (t : Tree) : Type 0 where
  pub value : Atom
  pub sets : m.Sets
  pub is : t ≡ stx (atom sets value)
  pub tag : o.tag ≡ tag_of value
  pub content : o.content ≡ content_of value
  pub words : sets_of (get_sets l i) ≡ sets

pub atom-at : {l : List ℕ} {top i : ℕ} {t : Tree} {o : Node} → Rep l top i t → o ≡ get_node l i → o.tag < list_tag → AtomAt l i o t
atom-at (is-var a q) e h = absurd (omega (arith, tag_is e q))
atom-at (is-app a q r) e h = absurd (omega (arith, tag_is e q))
atom-at (is-fun a q y r) e h = absurd (omega (arith, tag_is e q))
atom-at (is-datum {a = x} a q) e h = absurd (omega (arith, tag_is e q))
atom-at (is-lst a q r) e h = absurd (omega (arith, tag_is e q))
atom-at (is-atom {s = s} {a = x} a q y) e h = record { value = x; sets = s; is = refl; tag = tag_is e q; content = content-is e q; words = y }
atom-at (is-list a q y r) e h = absurd (omega (arith, tag_is e q))

pub record ListAt (l : List ℕ) (top i : ℕ) (o : Node) (t : Tree) : Type 0 where
  pub parts : Stxs
  pub sets : m.Sets
  pub is : t ≡ stx (list sets parts)
  pub shown : RepP l top o.content (from_stxs parts)
  pub words : sets_of (get_sets l i) ≡ sets
  pub low : o.content < i + 1

pub list_at : {l : List ℕ} {top i : ℕ} {t : Tree} {o : Node} → Rep l top i t → o ≡ get_node l i → o.tag ≡ list_tag → ListAt l top i o t
list_at (is-var a q) e h = absurd (omega (arith, tag_is e q))
list_at (is-app a q r) e h = absurd (omega (arith, tag_is e q))
list_at (is-fun a q y r) e h = absurd (omega (arith, tag_is e q))
list_at (is-datum {a = x} a q) e h = absurd (omega (arith, tag_is e q))
list_at (is-lst a q r) e h = absurd (omega (arith, tag_is e q))
list_at (is-atom {a = x} a q y) e h = absurd (omega (arith, tag_is e q, tag-low x))
list_at (is-list {s = s} {ps = ps} a q y r) e h =
    record { parts = ps; sets = s; is = refl; shown = rw (content-is e q) (up_p r (omega arith)); words = y; low = rw (content-is e q) (below_p r) }

-- what stands for a syntax object has the tag of one
pub stx-tag : {l : List ℕ} {top i : ℕ} {s : m.Stx} {o : Node} → Rep l top i (stx s) → o ≡ get_node l i → o.tag ≤ list_tag
stx-tag (is-atom {a = x} a q y) e = omega (arith, tag_is e q, tag-low x)
stx-tag (is-list a q y r) e = omega (arith, tag_is e q)

pub not-syntax : {l : List ℕ} {top i : ℕ} {o : Node} {t : Tree} → Rep l top i t → o ≡ get_node l i → list_tag < o.tag → as_stx t ≡ none
unfolding as_stx
not-syntax (is-var a q) e h = refl
not-syntax (is-app a q r) e h = refl
not-syntax (is-fun a q y r) e h = refl
not-syntax (is-datum a q) e h = refl
not-syntax (is-lst a q r) e h = refl
not-syntax (is-atom {a = x} a q y) e h = absurd (omega (arith, tag_is e q, tag-low x))
not-syntax (is-list a q y r) e h = absurd (omega (arith, tag_is e q))

-- ---- chains

tail_low : {l : List ℕ} {c r : ℕ} {ts : Trees} → RepP l c r ts → 0 < c → r < c
tail_low is_none h = h
tail_low (is-part a b e x y) h = omega arith

-- of a chain known to have a part
pub record ConsAt (l : List ℕ) (top c : ℕ) (x : Cell) (t : Tree) (ts : Trees) : Type 0 where
  pub inside : c + cell_size ≤ top
  pub low : (x.head + 1 < c) × (x.tail < c)
  pub shown : Rep l top x.head t
  pub shown-others : RepP l top x.tail ts
  pub weight : x.weight ≡ min most_size (weights (tcons t ts))
  pub size : x.size ≡ min most_size (tsizes (tcons t ts))
  pub nesting : x.nesting ≡ tnestings (tcons t ts)

pub cons-at : {l : List ℕ} {top c : ℕ} {t : Tree} {ts : Trees} {x : Cell} → RepP l top c (tcons t ts) → x ≡ get_cell l c → ConsAt l top c x t ts
cons-at {x = x} (is-part {h = hd} {r = tl} a b q u w) e =
    let eh : x.head ≡ hd = ap (λ (y : Cell). y.head) (e ∙ q) in
    let et : x.tail ≡ tl = ap (λ (y : Cell). y.tail) (e ∙ q) in
    record {
      inside = b;
      low = (omega (arith, eh, below u), omega (arith, et, tail_low w a));
      shown = rw eh (up u (omega arith));
      shown-others = rw et (up_p w (omega arith));
      weight = ap (λ (y : Cell). y.weight) (e ∙ q);
      size = ap (λ (y : Cell). y.size) (e ∙ q);
      nesting = ap (λ (y : Cell). y.nesting) (e ∙ q);
    }

-- of a chain known by its index alone
pub record PartAt (l : List ℕ) (top c : ℕ) (x : Cell) (ts : Trees) : Type 0 where
  pub first : Tree
  pub others : Trees
  pub is : ts ≡ tcons first others
  pub cell : ConsAt l top c x first others

pub part_at : {l : List ℕ} {top c : ℕ} {ts : Trees} {x : Cell} → RepP l top c ts → ¬ (c ≡ 0) → x ≡ get_cell l c → PartAt l top c x ts
part_at is_none h e = absurd (h refl)
part_at (is-part {t = t} {ts = ts} a b q u w) h e = record { first = t; others = ts; is = refl; cell = cons-at (is-part a b q u w) e }

pub none-at : {l : List ℕ} {top c : ℕ} {ts : Trees} → RepP l top c ts → c ≡ 0 → ts ≡ tnil
none-at is_none h = refl
none-at (is-part a b e x y) h = absurd (omega arith)

pub cons-some : {l : List ℕ} {top c : ℕ} {t : Tree} {ts : Trees} → RepP l top c (tcons t ts) → ¬ (c ≡ 0)
cons-some (is-part a b e x y) h = omega arith

-- ---- syntax objects

pub same_object : {x y : Stx} → stx x ≡ stx y → x ≡ y
same_object e = cc

pub nil-at : {l : List ℕ} {top c : ℕ} (ps : Stxs) → RepP l top c (from_stxs ps) → c ≡ 0 → ps ≡ nil
unfolding from_stxs
nil-at nil r h = refl
nil-at (cons x ps) r h = absurd (cons-some r h)
