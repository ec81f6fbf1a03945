-- What is measured is the charge for loading what the definition reads, and its test for code 3.
use Prim.Native.Nat.{ℕ, zero, suc, ◌+◌, ◌≤◌, ◌<◌}
use mathlib.Core.Path.{◌≡◌, refl, sym, ap, ap₂, ◌∙◌}
use mathlib.Core.Bool.{Bool, true, false, not, ◌&&◌, and-true}
use mathlib.Core.List.{List, [], ◌∷◌}
use native.Mathlib.Omega.{arith}
use lib.Dec.{eqb, ltb, leb}
use lib.ListN.{length, get_or, set, replicate, length-replicate, length-set}
use lib.Seq.{get_or-set_same, get_or-set_other}
use borrow.Author.Tests.{le-leb, ltb-true, eqb-true, eqb-false}
use Rattle.model.specs.Refusals.{layout}
use Rattle.model.specs.Objects.{Atom, content_of, Stx, size}
use Rattle.model.specs.Trees.{Tree, var, app, fun, datum, lst, stx, Trees, tcons, tsize_by, tsizes_by, load_size}
use Rattle.model.specs.Reading as m
use Rattle.model.specs.Reading.{Reader, got, fault, next, need, num, num_below, symbols, read_atom, read_stx, read_trees, read_app, read_tree_body, read_tree, at_end}
use Rattle.model.specs.Meanings.{is_among}
use Rattle.model.specs.Jobs.{closed, closed_all}
use Rattle.scopes.proofs.Members.{zeros_of}
use Rattle.numbers.specs.Answers.{kept}
use Rattle.roots.specs.MeasuredObjects.{read_content_of, measure_stx}
use Rattle.roots.proofs.ObjectsKept.{content-is, stx-is}
use Rattle.head.specs.Fronts.{most_names}
use Rattle.head.specs.declared.Counts.{Counts}
use Rattle.roots.specs.declared.Extent.{Extent}
use Rattle.roots.specs.Measuring.{nothing, one_more, joined, measure_variable, measure_atom, measure_object, measure_all, measure_several, function_with, body_with, measure_tree, then_end, whole_syntax, none_around, whole_tree}

-- what the head declares
abbrev pub counts_of : m.Head → Counts
counts_of h = record { symbols = symbols h; names = h.names; scopes = h.scopes }

-- the charge for loading a tree, and whether it is closed inside the functions of these names
abbrev pub extent_of : List ℕ → Tree → Extent
extent_of l t = record { size = load_size t; owned = closed l t }

extents_of : List ℕ → Trees → Extent
extents_of l ts = record { size = tsizes_by size ts; owned = closed_all l ts }

-- ---- names around

-- the table has the names below n that l has
pub record Around (n : ℕ) (table l : List ℕ) : Type 0 where
  pub long : n ≤ length table
  pub has : (j : ℕ) → j < n → not (eqb (get_or table j 0) 0) ≡ is_among j l

on_test : {P : Type 0} (t : Bool) → (t ≡ true → P) → (t ≡ false → P) → P
on_test true f g = f refl
on_test false f g = g refl

pub around-more : {n : ℕ} {table l : List ℕ} (j : ℕ) → j < n → Around n table l → Around n (set table j 1) (j ∷ l)
unfolding is_among
around-more {n} {table} {l} j h a =
    record {
      long = let e = length-set table j 1 in let x = a.long in omega arith;
      has = λ i k. on_test (eqb i j)
          (λ e.
          let q : i ≡ j = eqb-true i j e in
          let b : j < length table = let x = a.long in omega arith in
          rw (e, q, get_or-set_same table j 1 0 b))
          (λ e. rw (e, get_or-set_other table j i 1 0 (eqb-false i j e)) (a.has i k));
    }

pub around-none : {n : ℕ} → n ≤ most_names → Around n none_around []
unfolding none_around is_among
around-none {n} h =
    record {
      long = let e : length (replicate {A = ℕ} most_names 0) ≡ most_names = length-replicate {A = ℕ} most_names 0 in omega arith;
      has = λ j k. ap (λ (x : ℕ). not (eqb x 0)) ((zeros_of most_names).zeros j);
    }

-- ---- extents

joined-none : (a : Extent) → joined a nothing ≡ a
joined-none a = let e : a.size + 0 ≡ a.size = omega arith in ap₂ (λ (n : ℕ) (b : Bool). record { size = n; owned = b }) e (and-true a.owned)

joined_assoc : (a b c : Extent) → joined a (joined b c) ≡ joined (joined a b) c
joined_assoc a b c =
    let e : a.size + (b.size + c.size) ≡ (a.size + b.size) + c.size = omega arith in
    ap₂ (λ (n : ℕ) (x : Bool). record { size = n; owned = x }) e (go a.owned)
  where
    go : (x : Bool) → (x && (b.owned && c.owned)) ≡ ((x && b.owned) && c.owned)
    go true = refl
    go false = refl

-- ---- one tree after another

module _ (l : List ℕ) (sum : Extent) where
  one-tree : (x : Tree) (g : m.Read Trees) → kept (λ (ts : Trees). joined sum (extents_of l ts)) (next g (λ r u. got (tcons x r) u)) ≡ kept (λ (ts : Trees). joined (joined sum (extent_of l x)) (extents_of l ts)) g
  unfolding extents_of tsizes_by closed_all load_size
  one-tree x (got r u) = ap (λ (e : Extent). got e u) (joined_assoc sum (extent_of l x) (extents_of l r))
  one-tree x (fault c) = refl

  first-tree : (j : Reader Trees) (k : Extent → Reader Extent) → ((x : Tree) (t : List ℕ) → kept (λ (ts : Trees). joined (joined sum (extent_of l x)) (extents_of l ts)) (j t) ≡ k (extent_of l x) t)
      → (g : m.Read Tree) {q : m.Read Extent} → kept (extent_of l) g ≡ q → kept (λ (ts : Trees). joined sum (extents_of l ts)) (next g (λ x t. next (j t) (λ r u. got (tcons x r) u))) ≡ next q k
  first-tree j k h (got x t) e = one-tree x (j t) ∙ h x t ∙ ap (λ (g : m.Read Extent). next g k) e
  first-tree j k h (fault c) e = ap (λ (g : m.Read Extent). next g k) e

module _ (l : List ℕ) (part : Reader Tree) (measure : Reader Extent) (h : (s : List ℕ) → kept (extent_of l) (part s) ≡ measure s) where
  trees-are : (c : ℕ) (sum : Extent) (s : List ℕ) → kept (λ (ts : Trees). joined sum (extents_of l ts)) (read_trees c part s) ≡ measure_all c sum measure s
  unfolding read_trees measure_all extents_of tsizes_by closed_all
  trees-are zero sum s = ap (λ (e : Extent). got e s) (joined-none sum)
  trees-are (suc c) sum s = first-tree l sum (read_trees c part) (λ e. measure_all c (joined sum e) measure) (λ x t. trees-are c (joined sum (extent_of l x)) t) (part s) (h s)

  list_of : (g : m.Read Trees) {q : m.Read Extent} → kept (λ (ts : Trees). joined nothing (extents_of l ts)) g ≡ q → kept (extent_of l) (next g (λ r u. got (lst r) u)) ≡ next q (λ e u. got (one_more e) u)
  unfolding extents_of tsize_by load_size closed
  list_of (got r u) e =
      (let d : suc (tsizes_by size r) ≡ 0 + tsizes_by size r + 1 = omega arith in ap (λ (n : ℕ). got (record { size = n; owned = closed_all l r }) u) d)
      ∙ ap (λ (g : m.Read Extent). next g (λ e u. got (one_more e) u)) e
  list_of (fault c) e = ap (λ (g : m.Read Extent). next g (λ e u. got (one_more e) u)) e

  app_of : (f : Tree) (g : m.Read Trees) {q : m.Read Extent} → kept (λ (ts : Trees). joined (joined nothing (extent_of l f)) (extents_of l ts)) g ≡ q
      → kept (extent_of l) (next g (λ r u. got (app f r) u)) ≡ next q (λ e u. got (one_more e) u)
  unfolding extents_of tsize_by load_size closed
  app_of f (got r u) e =
      (let d : suc (tsize_by size f + tsizes_by size r) ≡ 0 + tsize_by size f + tsizes_by size r + 1 = omega arith in ap (λ (n : ℕ). got (record { size = n; owned = closed l f && closed_all l r }) u) d)
      ∙ ap (λ (g : m.Read Extent). next g (λ e u. got (one_more e) u)) e
  app_of f (fault c) e = ap (λ (g : m.Read Extent). next g (λ e u. got (one_more e) u)) e

  app-first : (c : ℕ) (g : m.Read Tree) {q : m.Read Extent} → kept (extent_of l) g ≡ q
      → kept (extent_of l) (next g (λ f t. next (read_trees c part t) (λ r u. got (app f r) u))) ≡ next (next q (λ e. measure_all c (joined nothing e) measure)) (λ e u. got (one_more e) u)
  app-first c (got f t) e = app_of f (read_trees c part t) (trees-are c (joined nothing (extent_of l f)) t) ∙ ap (λ (g : m.Read Extent). next (next g (λ e. measure_all c (joined nothing e) measure)) (λ e u. got (one_more e) u)) e
  app-first c (fault d) e = ap (λ (g : m.Read Extent). next (next g (λ e. measure_all c (joined nothing e) measure)) (λ e u. got (one_more e) u)) e

  app-counted : (g : m.Read ℕ) → kept (extent_of l) (next g (λ n. read_app n part)) ≡ next g (λ c t. next (need layout (leb 1 c) t) (λ x u. next (measure_all c nothing measure u) (λ e v. got (one_more e) v)))
  unfolding read_app measure_all
  app-counted (got zero t) = refl
  app-counted (got (suc c) t) = rw (le-leb 1 (suc c) (omega arith)) (app-first c (part t) (h t))
  app-counted (fault d) = refl

  list_counted : (g : m.Read ℕ) → kept (extent_of l) (next g (λ n t. next (read_trees n part t) (λ r u. got (lst r) u))) ≡ next g (λ c t. next (need layout (leb 0 c) t) (λ x u. next (measure_all c nothing measure u) (λ e v. got (one_more e) v)))
  list_counted (got c t) = rw (le-leb 0 c (omega arith)) (list_of (read_trees c part t) (trees-are c nothing t))
  list_counted (fault d) = refl

-- ---- what has no parts, and functions

pub below : (n : ℕ) (s : List ℕ) (j : ℕ) (t : List ℕ) → num_below n s ≡ got j t → j < n
unfolding num_below
below n s j t e = go (num s) e
  where
    tested : (k : ℕ) (u : List ℕ) (b : Bool) → ltb k n ≡ b → next (need layout b u) (λ x. λ v. got k v) ≡ got j t → j < n
    tested k u true q e = let v : k ≡ j = cc in let l = ltb-true k n q in omega arith
    tested k u false q e = let z : ◌≡◌ {A = ℕ} 0 1 = cc in absurd (omega arith)

    go : (g : m.Read ℕ) → next g (λ k u. next (need layout (ltb k n) u) (λ x. λ v. got k v)) ≡ got j t → j < n
    go (got k u) e = tested k u (ltb k n) refl e
    go (fault c) e = let z : ◌≡◌ {A = ℕ} 0 1 = cc in absurd (omega arith)

module _ (n : ℕ) (table l : List ℕ) (a : Around n table l) where
  variable_of : (g : m.Read ℕ) → ((j : ℕ) (t : List ℕ) → g ≡ got j t → j < n)
      → kept (extent_of l) (next g (λ j t. got (var j) t)) ≡ next g (λ j t. got (record { size = 1; owned = not (eqb (get_or table j 0) 0) }) t)
  unfolding load_size tsize_by closed
  variable_of (got j t) h = ap (λ (b : Bool). got (record { size = 1; owned = b }) t) (sym (a.has j (h j t refl)))
  variable_of (fault c) h = refl

  body_of : (j : ℕ) (g : m.Read Tree) {q : m.Read Extent} → kept (extent_of (j ∷ l)) g ≡ q → kept (extent_of l) (next g (λ b u. got (fun j b) u)) ≡ next q (λ e u. got (one_more e) u)
  unfolding load_size tsize_by closed
  body_of j (got b u) e =
      (let d : suc (tsize_by size b) ≡ tsize_by size b + 1 = omega arith in ap (λ (n : ℕ). got (record { size = n; owned = closed (j ∷ l) b }) u) d)
      ∙ ap (λ (g : m.Read Extent). next g (λ e u. got (one_more e) u)) e
  body_of j (fault c) e = ap (λ (g : m.Read Extent). next g (λ e u. got (one_more e) u)) e

  function_of : (tree : Reader Tree) (inside : ℕ → Reader Extent) → ((j : ℕ) → j < n → (s : List ℕ) → kept (extent_of (j ∷ l)) (tree s) ≡ inside j s) → (g : m.Read ℕ) → ((j : ℕ) (t : List ℕ) → g ≡ got j t → j < n)
      → kept (extent_of l) (next g (λ j t. next (tree t) (λ b u. got (fun j b) u))) ≡ next g (λ j t. next (inside j t) (λ e u. got (one_more e) u))
  function_of tree inside h (got j t) k = body_of j (tree t) (h j (k j t refl) t)
  function_of tree inside h (fault c) k = refl

atom-last : (l : List ℕ) (g : m.Read Atom) {q : m.Read ℕ} → kept content_of g ≡ q → kept (extent_of l) (next g (λ a u. got (datum a) u)) ≡ next q (λ x u. got (record { size = 1; owned = true }) u)
unfolding load_size tsize_by closed
atom-last l (got a u) e = ap (λ (g : m.Read ℕ). next g (λ x u. got (record { size = 1; owned = true }) u)) e
atom-last l (fault c) e = ap (λ (g : m.Read ℕ). next g (λ x u. got (record { size = 1; owned = true }) u)) e

atom_of_lem : (l : List ℕ) (h : m.Head) (g : m.Read ℕ) → kept (extent_of l) (next g (λ t u. next (read_atom h t u) (λ a v. got (datum a) v))) ≡ next g (λ t u. next (read_content_of (symbols h) t u) (λ x v. got (record { size = 1; owned = true }) v))
atom_of_lem l h (got t u) = atom-last l (read_atom h t u) (content-is h t u)
atom_of_lem l h (fault c) = refl

object_of : (l : List ℕ) (g : m.Read Stx) {q : m.Read ℕ} → kept size g ≡ q → kept (extent_of l) (next g (λ x u. got (stx x) u)) ≡ next q (λ n u. got (record { size = n; owned = true }) u)
unfolding load_size tsize_by closed
object_of l (got x u) e = ap (λ (g : m.Read ℕ). next g (λ n u. got (record { size = n; owned = true }) u)) e
object_of l (fault c) e = ap (λ (g : m.Read ℕ). next g (λ n u. got (record { size = n; owned = true }) u)) e

-- ---- trees

body_is : (h : m.Head) (table l : List ℕ) → Around h.names table l → (tree value : Reader Tree) (object : Reader Stx) (tree' value' : Reader Extent) (inside : ℕ → Reader Extent) (levels : ℕ)
    → ((s : List ℕ) → kept (extent_of l) (tree s) ≡ tree' s) → ((s : List ℕ) → kept (extent_of l) (value s) ≡ value' s)
    → ((j : ℕ) → j < h.names → (s : List ℕ) → kept (extent_of (j ∷ l)) (tree s) ≡ inside j s) → ((s : List ℕ) → kept size (object s) ≡ measure_stx (symbols h) h.scopes levels s)
    → (t : ℕ) (s : List ℕ) → kept (extent_of l) (read_tree_body h tree value object t s) ≡ body_with (counts_of h) table tree' value' inside (measure_object (symbols h) h.scopes levels) t s
unfolding read_tree_body body_with measure_variable measure_several function_with measure_atom measure_object
body_is h table l a tree value object tree' value' inside levels p q r o zero s = variable_of h.names table l a (num_below h.names s) (below h.names s)
body_is h table l a tree value object tree' value' inside levels p q r o (suc zero) s = app-counted l tree tree' p (num s)
body_is h table l a tree value object tree' value' inside levels p q r o (suc (suc zero)) s = function_of h.names table l a tree inside r (num_below h.names s) (below h.names s)
body_is h table l a tree value object tree' value' inside levels p q r o (suc (suc (suc zero))) s = atom_of_lem l h (num s)
body_is h table l a tree value object tree' value' inside levels p q r o (suc (suc (suc (suc zero)))) s = list_counted l value value' q (num s)
body_is h table l a tree value object tree' value' inside levels p q r o (suc (suc (suc (suc (suc zero))))) s = object_of l (object s) (o s)
body_is h table l a tree value object tree' value' inside levels p q r o (suc (suc (suc (suc (suc (suc n)))))) s = refl

tagged : (l : List ℕ) (low : ℕ) (j : ℕ → Reader Tree) (k : ℕ → Reader Extent) → ((t : ℕ) (s : List ℕ) → kept (extent_of l) (j t s) ≡ k t s) → (g : m.Read ℕ)
    → kept (extent_of l) (next g (λ t u. next (need layout (leb low t) u) (λ x. j t))) ≡ next g (λ t u. next (need layout (leb low t) u) (λ x. k t))
tagged l low j k h (got t u) = go (leb low t)
  where
    go : (b : Bool) → kept (extent_of l) (next (need layout b u) (λ x. j t)) ≡ next (need layout b u) (λ x. k t)
    go true = h t u
    go false = refl
tagged l low j k h (fault c) = refl

pub tree_is : (h : m.Head) (levels low : ℕ) (table l : List ℕ) → Around h.names table l → (s : List ℕ) → kept (extent_of l) (read_tree levels h low s) ≡ measure_tree (counts_of h) levels low table s
unfolding read_tree measure_tree
tree_is h zero low table l a s = refl
tree_is h (suc levels) low table l a s =
    tagged l low (read_tree_body h (read_tree levels h 0) (read_tree levels h 2) (read_stx (suc levels) h))
    (body_with (counts_of h) table (measure_tree (counts_of h) levels 0 table) (measure_tree (counts_of h) levels 2 table) (λ n. measure_tree (counts_of h) levels 0 (set table n 1)) (measure_object (symbols h) h.scopes (suc levels)))
    (body_is h table l a (read_tree levels h 0) (read_tree levels h 2) (read_stx (suc levels) h) (measure_tree (counts_of h) levels 0 table) (measure_tree (counts_of h) levels 2 table) (λ n. measure_tree (counts_of h) levels 0 (set table n 1)) (suc levels)
    (tree_is h levels 0 table l a) (tree_is h levels 2 table l a) (λ j k. tree_is h levels 0 (set table j 1) (j ∷ l) (around-more j k a)) (stx-is h (suc levels)))
    (num s)

-- ---- roots

then_end_lem : {A K : Type 0} (v : A → K) (g : m.Read A) {q : m.Read K} → kept v g ≡ q → kept v (next g (λ a t. next (at_end t) (λ x u. got a u))) ≡ next q (λ k t. next (at_end t) (λ x u. got k u))
then_end_lem {K = K} v (got a t) {q} e = ends (at_end t) ∙ ap (λ (g : m.Read K). next g (λ k t. next (at_end t) (λ x u. got k u))) e
  where
    ends : (f : m.Read (Unit {0})) → kept v (next f (λ x u. got a u)) ≡ next f (λ x u. got (v a) u)
    ends (got x u) = refl
    ends (fault c) = refl
then_end_lem {K = K} v (fault c) e = ap (λ (g : m.Read K). next g (λ k t. next (at_end t) (λ x u. got k u))) e

pub syntax_root_is : (h : m.Head) (s : List ℕ) → kept size (then_end (read_stx 64 h) s) ≡ whole_syntax (counts_of h) s
unfolding whole_syntax then_end
syntax_root_is h s = then_end_lem size (read_stx 64 h s) (stx-is h 64 s)

pub tree_root_is : (h : m.Head) (levels low : ℕ) (s : List ℕ) → h.names ≤ 1024 → kept (extent_of []) (then_end (read_tree levels h low) s) ≡ whole_tree (counts_of h) levels low s
unfolding whole_tree then_end
tree_root_is h levels low s l = then_end_lem (extent_of []) (read_tree levels h low s) (tree_is h levels low none_around [] (around-none l) s)
