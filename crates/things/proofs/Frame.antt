-- What stands in the table stands there still when the table has grown.
use mathlib.Core.Path.{◌≡◌, ap, ◌∙◌}
use mathlib.Core.List.{List}
use Prim.Native.Nat.{ℕ, ◌+◌, ◌≤◌, ◌<◌}
use native.Mathlib.Omega.{arith}
use Rattle.model.specs.Objects as m
use Rattle.model.specs.Trees.{Tree, Trees, tnesting, tnestings}
use Rattle.table.specs.Words.{get_node, get_sets, Same}
use Rattle.table.proofs.Laws.{get_node-same, get_sets-same, get_body-same, get_cell-same, same_under}
use Rattle.things.specs.Rep.{Rep, RepP, is-var, is-app, is-fun, is-lst, is-datum, is-atom, is-list, is_none, is-part, sets_of}
use Rattle.things.proofs.Weighing.{nest_from}
use Rattle.table.specs.Sizes.{cell_size, node_size}

-- ---- all of it lies below top

pub below : {l : List ℕ} {top i : ℕ} {t : Tree} → Rep l top i t → i + node_size ≤ top
below (is-var a q) = a
below (is-app a q r) = a
below (is-fun a q y r) = a
below (is-datum a q) = a
below (is-lst a q r) = a
below (is-atom a q y) = a
below (is-list a q y r) = a

pub below_p : {l : List ℕ} {top c : ℕ} {ts : Trees} → RepP l top c ts → c < top + 1
below_p is_none = omega arith
below_p (is-part a b e h r) = omega arith

pub up : {l : List ℕ} {m n i : ℕ} {t : Tree} → Rep l m i t → m ≤ n → Rep l n i t
up {n = n} {i = i} (is-var a q) h = let z : i + node_size ≤ n = omega arith in is-var z q
up {n = n} {i = i} (is-app a q r) h = let z : i + node_size ≤ n = omega arith in is-app z q r
up {n = n} {i = i} (is-fun a q y r) h = let z : i + node_size ≤ n = omega arith in is-fun z q y r
up {n = n} {i = i} (is-datum a q) h = let z : i + node_size ≤ n = omega arith in is-datum z q
up {n = n} {i = i} (is-lst a q r) h = let z : i + node_size ≤ n = omega arith in is-lst z q r
up {n = n} {i = i} (is-atom a q y) h = let z : i + node_size ≤ n = omega arith in is-atom z q y
up {n = n} {i = i} (is-list a q y r) h = let z : i + node_size ≤ n = omega arith in is-list z q y r

pub up_p : {l : List ℕ} {m n c : ℕ} {ts : Trees} → RepP l m c ts → m ≤ n → RepP l n c ts
up_p is_none h = is_none
up_p {n = n} {c = c} (is-part a b e x y) h = let q : c + cell_size ≤ n = omega arith in is-part a q e x y

-- ---- a table that agrees below top

node_stays : (n : ℕ) (l l' : List ℕ) (i : ℕ) → Same n l l' → i + node_size ≤ n → get_node l' i ≡ get_node l i
node_stays n l l' i e h = get_node-same n l l' i e (omega arith)

sets_stay : (n : ℕ) (l l' : List ℕ) (i : ℕ) {s : m.Sets} → Same n l l' → i + node_size ≤ n → sets_of (get_sets l i) ≡ s → sets_of (get_sets l' i) ≡ s
sets_stay n l l' i e h q = ap sets_of (get_sets-same n l l' i e h) ∙ q

mutual
  pub stays : {l l' : List ℕ} {n i : ℕ} {t : Tree} → Rep l n i t → Same n l l' → Rep l' n i t
  stays {l} {l'} {n} {i} (is-var a q) e = is-var a (node_stays n l l' i e a ∙ q)
  stays {l} {l'} {n} {i} (is-app a q r) e = is-app a (node_stays n l l' i e a ∙ q) (stays_p r (same_under i n l l' (omega arith) e))
  stays {l} {l'} {n} {i} (is-fun a q y r) e =
      is-fun a (node_stays n l l' i e a ∙ q) (get_body-same n l l' i e a ∙ y) (stays r (same_under i n l l' (omega arith) e))
  stays {l} {l'} {n} {i} (is-datum a q) e = is-datum a (node_stays n l l' i e a ∙ q)
  stays {l} {l'} {n} {i} (is-lst a q r) e = is-lst a (node_stays n l l' i e a ∙ q) (stays_p r (same_under i n l l' (omega arith) e))
  stays {l} {l'} {n} {i} (is-atom a q y) e = is-atom a (node_stays n l l' i e a ∙ q) (sets_stay n l l' i e a y)
  stays {l} {l'} {n} {i} (is-list a q y r) e =
      is-list a (node_stays n l l' i e a ∙ q) (sets_stay n l l' i e a y) (stays_p r (same_under i n l l' (omega arith) e))

  pub stays_p : {l l' : List ℕ} {n c : ℕ} {ts : Trees} → RepP l n c ts → Same n l l' → RepP l' n c ts
  stays_p is_none e = is_none
  stays_p {l} {l'} {n} {c} (is-part a b q h r) e =
      is-part a b (get_cell-same n l l' c e b ∙ q) (stays h (same_under c n l l' (omega arith) e)) (stays_p r (same_under c n l l' (omega arith) e))

-- ---- a table that has grown

pub carry : {l l' : List ℕ} {m n i : ℕ} {t : Tree} → Rep l m i t → Same m l l' → m ≤ n → Rep l' n i t
carry r e h = up (stays r e) h

pub carry_p : {l l' : List ℕ} {m n c : ℕ} {ts : Trees} → RepP l m c ts → Same m l l' → m ≤ n → RepP l' n c ts
carry_p r e h = up_p (stays_p r e) h

-- ---- nothing is nested deeper than it lies

mutual
  unfolding tnesting m.nesting

  pub deep : {l : List ℕ} {top i : ℕ} {t : Tree} → Rep l top i t → tnesting t ≤ top
  deep (is-var a q) = omega arith
  deep (is-app a q r) = omega (arith, deep_p r)
  deep (is-fun a q y r) = omega (arith, deep r)
  deep (is-datum a q) = omega arith
  deep (is-lst a q r) = omega (arith, deep_p r)
  deep (is-atom a q y) = omega arith
  deep (is-list {ps = ps} a q y r) = omega (arith, deep_p r, nest_from ps)

  pub deep_p : {l : List ℕ} {top c : ℕ} {ts : Trees} → RepP l top c ts → tnestings ts ≤ top
  deep_p is_none = omega arith
  deep_p (is-part a b q h r) = omega (arith, deep h, deep_p r)
