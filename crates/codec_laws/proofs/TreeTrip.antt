-- Trees: what is read keeps the limits and is written again the same; what keeps the limits is read back.
use mathlib.Core.Path.{◌≡◌, refl, sym, ap, ◌∙◌, subst}
use Prim.Native.Nat.{ℕ, zero, suc, ◌≤◌, ◌<◌, zero-le, suc-le-suc}
use native.Mathlib.Nat.{le_refl, le_trans, le-max_left, le-max_right, max-le, not-suc-le-zero, le_of_suc-le-suc}
use native.Mathlib.Omega.{arith}
use mathlib.Core.List.{List, [], ◌++◌, append_assoc}
use lib.Dec.{leb}
use lib.ListN.{length}
use Rattle.model.specs.Refusals.{layout, over_limit}
use Rattle.model.specs.Objects.{Atom, tag_of, content_of, Stx, atom, list, nesting}
use Rattle.model.specs.Trees.{Tree, var, app, fun, datum, lst, stx, Trees, tnil, tcons, tcount, tnesting, tnestings}
use Rattle.model.specs.Reading.{got, Reader, need, num, num_below, read_atom, read_stx, read_trees, read_app, read_tree_body, read_tree, Head, symbols}
use Rattle.model.specs.Writing.{num_bytes, stx_bytes, tree_bytes, trees_bytes}
use borrow.Author.Tests.{le-leb, leb-true}
use Rattle.codec_laws.specs.WellFormed.{Bytes, AtomFits, IsValue, TreeFits, TreesFit, ValuesFit}
use Rattle.codec_laws.proofs.NumberTrip.{num_back, fault≢got}
use Rattle.codec_laws.proofs.Sequence.{next-got, need-got, moved, Wrote, wrote, join, num_w, below_w, below_back}
use Rattle.codec_laws.proofs.Lengths.{left_le, right_le, tcount_le}
use Rattle.codec_laws.proofs.ObjectTrip.{atom_w, atom_back, tag_le, StxTook, stx_w, stx_back}

-- ---- what fits the head h

abbrev FitT : Head → Tree → Type 0
FitT h t = TreeFits (symbols h) h.names h.scopes t

abbrev FitTs : Head → Trees → Type 0
FitTs h l = TreesFit (symbols h) h.names h.scopes l

abbrev FitVs : Head → Trees → Type 0
FitVs h l = ValuesFit (symbols h) h.names h.scopes l

-- a value has a tag of at least 2
abbrev FromTag : ℕ → Tree → Type 0
FromTag low t = 2 ≤ low → IsValue t

-- ---- trees read

-- a tree read with l levels left, whose tag is at least low
abbrev pub TreeTook : ℕ → Head → ℕ → List ℕ → Tree → List ℕ → Type 0
TreeTook l h low s t rest = Wrote (tree_bytes t) s rest × FitT h t × (tnesting t ≤ l) × FromTag low t

abbrev PartW : ℕ → Head → ℕ → Reader Tree → Type 0
PartW l h low part = (t : Tree) (s rest : List ℕ) → Bytes s → part s ≡ got t rest → TreeTook l h low s t rest

-- parts that are read one by one, of which Q holds
abbrev TreesTook : (Trees → Type 0) → ℕ → ℕ → List ℕ → Trees → List ℕ → Type 0
TreesTook Q l c s p rest = Wrote (trees_bytes p) s rest × (tcount p ≡ c) × Q p × (tnestings p ≤ l)

trees_w : (Q : Trees → Type 0) (l : ℕ) (h : Head) (low : ℕ) (part : Reader Tree) → PartW l h low part
    → Q tnil → ((t : Tree) (p : Trees) → FitT h t → FromTag low t → Q p → Q (tcons t p))
    → (c : ℕ) (p : Trees) (s rest : List ℕ) → Bytes s → read_trees c part s ≡ got p rest → TreesTook Q l c s p rest
unfolding read_trees tree_bytes tcount tnesting
trees_w Q l h low part k none more zero p s rest b e = moved (TreesTook Q l 0 s) tnil p s rest e (wrote [] s s b refl, refl, none, zero-le)
trees_w Q l h low part k none more (suc c) p s rest b e =
    let g = next-got (part s) _ p rest e in
    let x = k g.0 s g.1 b g.2 in
    let r = next-got (read_trees c part g.1) _ p rest g.3 in
    let q = trees_w Q l h low part k none more c r.0 g.1 r.1 x.0.1 r.2 in
    moved (TreesTook Q l (suc c) s) (tcons g.0 r.0) p r.1 rest r.3 (
      join (tree_bytes g.0) (trees_bytes r.0) s g.1 r.1 x.0 q.0,
      ap suc q.1,
      more g.0 r.0 x.1 x.3 q.2,
      max-le x.2 q.3,
    )

-- nothing is asked of a tree whose tag may be less than 2
low-tag : (low : ℕ) (t : Tree) → low ≤ 1 → FromTag low t
low-tag low t h k = absurd (two-one (le_trans k h))
  where
    two-one : 2 ≤ 1 → ⊥
    two-one q = omega arith

-- what follows the tag t, where the tag is written at the start of s₀
body_w : (l : ℕ) (h : Head) (low : ℕ) → h.scopes ≤ 256 → (tree value : Reader Tree) (object : Reader Stx) → PartW l h 0 tree → PartW l h 2 value
    → ((x : Stx) (s rest : List ℕ) → Bytes s → object s ≡ got x rest → StxTook (suc l) h s x rest)
    → (t : ℕ) → low ≤ t → (v : Tree) (s₀ s rest : List ℕ) → Wrote (num_bytes t) s₀ s → read_tree_body h tree value object t s ≡ got v rest
    → TreeTook (suc l) h low s₀ v rest
unfolding read_tree_body read_app tree_bytes tnesting
body_w l h low i tree value object kt kv ko zero q v s₀ s rest w e =
    let n = next-got (num_below h.names s) _ v rest e in
    let w₁ = below_w h.names n.0 s n.1 w.1 n.2 in
    moved (TreeTook (suc l) h low s₀) (var n.0) v n.1 rest n.3
    (join (num_bytes 0) (num_bytes n.0) s₀ s n.1 w w₁.0, w₁.1, suc-le-suc zero-le, low-tag low (var n.0) (le_trans q zero-le))
body_w l h low i tree value object kt kv ko (suc zero) q v s₀ s rest w e =
    let n = next-got (num s) _ v rest e in
    let w₁ = num_w n.0 s n.1 w.1 n.2 in
    app_w n.0 n.1 w₁.0 n.3
  where
    app_w : (n : ℕ) (s₁ : List ℕ) → Wrote (num_bytes n) s s₁ → read_app n tree s₁ ≡ got v rest → TreeTook (suc l) h low s₀ v rest
    app_w zero s₁ w₁ f = absurd (fault≢got layout v rest f)
    app_w (suc c) s₁ w₁ f =
        let a = next-got (tree s₁) _ v rest f in
        let x = kt a.0 s₁ a.1 w₁.1 a.2 in
        let r = next-got (read_trees c tree a.1) _ v rest a.3 in
        let p = trees_w (FitTs h) l h 0 tree kt tt (λ t p f v q. (f, q)) c r.0 a.1 r.1 x.0.1 r.2 in
        moved (TreeTook (suc l) h low s₀) (app a.0 r.0) v r.1 rest r.3 (
          join (num_bytes 1 ++ num_bytes (suc (tcount r.0)) ++ tree_bytes a.0) (trees_bytes r.0) s₀ a.1 r.1
              (join (num_bytes 1 ++ num_bytes (suc (tcount r.0))) (tree_bytes a.0) s₀ s₁ a.1
              (join (num_bytes 1) (num_bytes (suc (tcount r.0))) s₀ s s₁ w
              (subst (λ (z : ℕ). Wrote (num_bytes (suc z)) s s₁) (sym p.1) w₁))
              x.0)
              p.0,
          (x.1, p.2),
          suc-le-suc (max-le x.2 p.3),
          low-tag low (app a.0 r.0) q,
        )
body_w l h low i tree value object kt kv ko (suc (suc zero)) q v s₀ s rest w e =
    let n = next-got (num_below h.names s) _ v rest e in
    let w₁ = below_w h.names n.0 s n.1 w.1 n.2 in
    let b = next-got (tree n.1) _ v rest n.3 in
    let x = kt b.0 n.1 b.1 w₁.0.1 b.2 in
    moved (TreeTook (suc l) h low s₀) (fun n.0 b.0) v b.1 rest b.3 (
      join (num_bytes 2 ++ num_bytes n.0) (tree_bytes b.0) s₀ n.1 b.1 (join (num_bytes 2) (num_bytes n.0) s₀ s n.1 w w₁.0) x.0,
      (w₁.1, x.1),
      suc-le-suc x.2,
      λ k. tt,
    )
body_w l h low i tree value object kt kv ko (suc (suc (suc zero))) q v s₀ s rest w e =
    let t = next-got (num s) _ v rest e in
    let w₁ = num_w t.0 s t.1 w.1 t.2 in
    let a = next-got (read_atom h t.0 t.1) _ v rest t.3 in
    let x = atom_w h t.0 a.0 t.1 a.1 w₁.0.1 a.2 in
    moved (TreeTook (suc l) h low s₀) (datum a.0) v a.1 rest a.3 (
      join (num_bytes 3 ++ num_bytes (tag_of a.0)) (num_bytes (content_of a.0)) s₀ t.1 a.1
          (join (num_bytes 3) (num_bytes (tag_of a.0)) s₀ s t.1 w (subst (λ (z : ℕ). Wrote (num_bytes z) s t.1) (sym x.1) w₁.0)) x.0,
      x.2,
      suc-le-suc zero-le,
      λ k. tt,
    )
body_w l h low i tree value object kt kv ko (suc (suc (suc (suc zero)))) q v s₀ s rest w e =
    let n = next-got (num s) _ v rest e in
    let w₁ = num_w n.0 s n.1 w.1 n.2 in
    let r = next-got (read_trees n.0 value n.1) _ v rest n.3 in
    let p = trees_w (FitVs h) l h 2 value kv tt (λ t p f v q. (v (le_refl 2), f, q)) n.0 r.0 n.1 r.1 w₁.0.1 r.2 in
    moved (TreeTook (suc l) h low s₀) (lst r.0) v r.1 rest r.3 (
      join (num_bytes 4 ++ num_bytes (tcount r.0)) (trees_bytes r.0) s₀ n.1 r.1
          (join (num_bytes 4) (num_bytes (tcount r.0)) s₀ s n.1 w (subst (λ (z : ℕ). Wrote (num_bytes z) s n.1) (sym p.1) w₁.0)) p.0,
      p.2,
      suc-le-suc p.3,
      λ k. tt,
    )
body_w l h low i tree value object kt kv ko (suc (suc (suc (suc (suc zero))))) q v s₀ s rest w e =
    let a = next-got (object s) _ v rest e in
    let x = ko a.0 s a.1 w.1 a.2 in
    moved (TreeTook (suc l) h low s₀) (stx a.0) v a.1 rest a.3
    (join (num_bytes 5) (stx_bytes a.0) s₀ s a.1 w x.0, x.1, x.2, λ k. tt)
body_w l h low i tree value object kt kv ko (suc (suc (suc (suc (suc (suc t)))))) q v s₀ s rest w e = absurd (fault≢got layout v rest e)

pub tree_w : (l : ℕ) (h : Head) → h.scopes ≤ 256 → (low : ℕ) → PartW l h low (read_tree l h low)
unfolding read_tree
tree_w zero h i low v s rest b e = absurd (fault≢got over_limit v rest e)
tree_w (suc l) h i low v s rest b e =
    let t = next-got (num s) _ v rest e in
    let n = next-got (need layout (leb low t.0) t.1) _ v rest t.3 in
    let q = need-got layout (leb low t.0) n.0 t.1 n.1 n.2 in
    body_w l h low i (read_tree l h 0) (read_tree l h 2) (read_stx (suc l) h) (tree_w l h i 0) (tree_w l h i 2) (stx_w (suc l) h i) t.0
    (leb-true low t.0 q.0) v s n.1 rest (num_w t.0 s n.1 b (t.2 ∙ ap (got t.0) q.1)).0 n.3

-- ---- trees written

-- the tag, and then what follows it
tagged_back : (l : ℕ) (h : Head) (low t : ℕ) (w rest : List ℕ) (v : Tree) → low ≤ t → t ≤ 5
    → read_tree_body h (read_tree l h 0) (read_tree l h 2) (read_stx (suc l) h) t (w ++ rest) ≡ got v rest
    → read_tree (suc l) h low ((num_bytes t ++ w) ++ rest) ≡ got v rest
unfolding read_tree
tagged_back l h low t w rest v q k e =
    rw (append_assoc (num_bytes t) w rest, num_back t (w ++ rest) (omega arith), le-leb low t q) e

var_body : (h : Head) (tree value : Reader Tree) (object : Reader Stx) (n : ℕ) (rest : List ℕ) → n < h.names → h.names ≤ 1024
    → read_tree_body h tree value object 0 (num_bytes n ++ rest) ≡ got (var n) rest
unfolding read_tree_body
var_body h tree value object n rest f k = rw (below_back h.names n rest f (omega arith))

app_body : (h : Head) (tree value : Reader Tree) (object : Reader Stx) (f : Tree) (p : Trees) (rest : List ℕ) → suc (tcount p) < 4294967296
    → tree (tree_bytes f ++ (trees_bytes p ++ rest)) ≡ got f (trees_bytes p ++ rest) → read_trees (tcount p) tree (trees_bytes p ++ rest) ≡ got p rest
    → read_tree_body h tree value object 1 ((num_bytes (suc (tcount p)) ++ tree_bytes f ++ trees_bytes p) ++ rest) ≡ got (app f p) rest
unfolding read_tree_body read_app
app_body h tree value object f p rest n a b =
    rw (
      append_assoc (num_bytes (suc (tcount p)) ++ tree_bytes f) (trees_bytes p) rest,
      append_assoc (num_bytes (suc (tcount p))) (tree_bytes f) (trees_bytes p ++ rest),
      num_back (suc (tcount p)) (tree_bytes f ++ (trees_bytes p ++ rest)) n,
      a,
      b,
    )

fun_body : (h : Head) (tree value : Reader Tree) (object : Reader Stx) (n : ℕ) (b : Tree) (rest : List ℕ) → n < h.names → h.names ≤ 1024
    → tree (tree_bytes b ++ rest) ≡ got b rest → read_tree_body h tree value object 2 ((num_bytes n ++ tree_bytes b) ++ rest) ≡ got (fun n b) rest
unfolding read_tree_body
fun_body h tree value object n b rest f k e =
    rw (append_assoc (num_bytes n) (tree_bytes b) rest, below_back h.names n (tree_bytes b ++ rest) f (omega arith), e)

datum_body : (h : Head) (tree value : Reader Tree) (object : Reader Stx) (a : Atom) (rest : List ℕ) → symbols h < 4294967296 → AtomFits (symbols h) a
    → read_tree_body h tree value object 3 ((num_bytes (tag_of a) ++ num_bytes (content_of a)) ++ rest) ≡ got (datum a) rest
unfolding read_tree_body
datum_body h tree value object a rest k f =
    rw (
      append_assoc (num_bytes (tag_of a)) (num_bytes (content_of a)) rest,
      num_back (tag_of a) (num_bytes (content_of a) ++ rest) (omega (arith, tag_le a)),
      atom_back h a rest k f,
    )

lst_body : (h : Head) (tree value : Reader Tree) (object : Reader Stx) (p : Trees) (rest : List ℕ) → tcount p < 4294967296
    → read_trees (tcount p) value (trees_bytes p ++ rest) ≡ got p rest
    → read_tree_body h tree value object 4 ((num_bytes (tcount p) ++ trees_bytes p) ++ rest) ≡ got (lst p) rest
unfolding read_tree_body
lst_body h tree value object p rest n e =
    rw (append_assoc (num_bytes (tcount p)) (trees_bytes p) rest, num_back (tcount p) (trees_bytes p ++ rest) n, e)

stx_body : (h : Head) (tree value : Reader Tree) (object : Reader Stx) (x : Stx) (rest : List ℕ) → object (stx_bytes x ++ rest) ≡ got x rest
    → read_tree_body h tree value object 5 (stx_bytes x ++ rest) ≡ got (stx x) rest
unfolding read_tree_body
stx_body h tree value object x rest e = rw e

trees-cons : (part : Reader Tree) (t : Tree) (p : Trees) (rest : List ℕ) → part (tree_bytes t ++ (trees_bytes p ++ rest)) ≡ got t (trees_bytes p ++ rest)
    → read_trees (tcount p) part (trees_bytes p ++ rest) ≡ got p rest
    → read_trees (suc (tcount p)) part ((tree_bytes t ++ trees_bytes p) ++ rest) ≡ got (tcons t p) rest
unfolding read_trees
trees-cons part t p rest a b = rw (append_assoc (tree_bytes t) (trees_bytes p) rest, a, b)

trees-nil : (part : Reader Tree) (rest : List ℕ) → read_trees 0 part rest ≡ got tnil rest
unfolding read_trees
trees-nil part rest = refl

-- the head's counts are small
pub record Counts (h : Head) : Type 0 where
  pub scopes-few : h.scopes ≤ 256
  pub names-few : h.names ≤ 1024
  pub symbols-few : symbols h < 4294967296

-- the least tag asked for, 0 or 2, is met by the tree
abbrev pub Meets : ℕ → Tree → Type 0
Meets low (var n) = low ≤ 0
Meets low (app f l) = low ≤ 1
Meets low (fun n b) = low ≤ 2
Meets low (datum a) = low ≤ 2
Meets low (lst l) = low ≤ 2
Meets low (stx s) = low ≤ 2

pub meets_all : (t : Tree) → Meets 0 t
meets_all (var n) = zero-le
meets_all (app f l) = zero-le
meets_all (fun n b) = zero-le
meets_all (datum a) = zero-le
meets_all (lst l) = zero-le
meets_all (stx s) = zero-le

meets_value : (t : Tree) → IsValue t → Meets 2 t
meets_value (var n) v = absurd v
meets_value (app f l) v = absurd v
meets_value (fun n b) v = le_refl 2
meets_value (datum a) v = le_refl 2
meets_value (lst l) v = le_refl 2
meets_value (stx s) v = le_refl 2

-- no object is of nesting 0
deep : (x : Stx) → nesting x ≤ 0 → ⊥
unfolding nesting
deep (atom c a) q = not-suc-le-zero q
deep (list c l) q = not-suc-le-zero q

-- an application's bytes: its tag, and then the rest
regroup : (g : Tree) (p : Trees) → num_bytes 1 ++ num_bytes (suc (tcount p)) ++ tree_bytes g ++ trees_bytes p
    ≡ num_bytes 1 ++ (num_bytes (suc (tcount p)) ++ tree_bytes g ++ trees_bytes p)
regroup g p =
    append_assoc (num_bytes 1 ++ num_bytes (suc (tcount p))) (tree_bytes g) (trees_bytes p)
    ∙ append_assoc (num_bytes 1) (num_bytes (suc (tcount p))) (tree_bytes g ++ trees_bytes p)
    ∙ ap (λ (z : List ℕ). num_bytes 1 ++ z) (sym (append_assoc (num_bytes (suc (tcount p))) (tree_bytes g) (trees_bytes p)))

mutual
  unfolding tree_bytes tnesting tcount

  pub tree_back : (h : Head) → Counts h → (t : Tree) → FitT h t → length (tree_bytes t) ≤ 65536 → (low : ℕ) → Meets low t
      → (l : ℕ) → tnesting t ≤ l → (rest : List ℕ) → read_tree l h low (tree_bytes t ++ rest) ≡ got t rest
  tree_back h k (var n) f s low m zero q rest = absurd (not-suc-le-zero q)
  tree_back h k (var n) f s low m (suc l) q rest =
      tagged_back l h low 0 (num_bytes n) rest (var n) m zero-le
      (var_body h (read_tree l h 0) (read_tree l h 2) (read_stx (suc l) h) n rest f k.names-few)
  tree_back h k (app g p) f s low m zero q rest = absurd (not-suc-le-zero q)
  tree_back h k (app g p) f s low m (suc l) q rest =
      let short : length (trees_bytes p) ≤ 65536 = right_le 65536 (num_bytes 1 ++ num_bytes (suc (tcount p)) ++ tree_bytes g) (trees_bytes p) s in
      let before = left_le 65536 (num_bytes 1 ++ num_bytes (suc (tcount p)) ++ tree_bytes g) (trees_bytes p) s in
      ap (λ (z : List ℕ). read_tree (suc l) h low (z ++ rest)) (regroup g p)
      ∙ tagged_back l h low 1 (num_bytes (suc (tcount p)) ++ tree_bytes g ++ trees_bytes p) rest (app g p) m (omega arith)
      (app_body h (read_tree l h 0) (read_tree l h 2) (read_stx (suc l) h) g p rest (omega (arith, short, tcount_le p))
      (tree_back h k g f.0 (right_le 65536 (num_bytes 1 ++ num_bytes (suc (tcount p))) (tree_bytes g) before) 0 (meets_all g) l
      (le_trans (le-max_left (tnesting g) (tnestings p)) (le_of_suc-le-suc q)) (trees_bytes p ++ rest))
      (trees_back h k p f.1 short l (le_trans (le-max_right (tnesting g) (tnestings p)) (le_of_suc-le-suc q)) rest))
  tree_back h k (fun n b) f s low m zero q rest = absurd (not-suc-le-zero q)
  tree_back h k (fun n b) f s low m (suc l) q rest =
      ap (λ (z : List ℕ). read_tree (suc l) h low (z ++ rest)) (append_assoc (num_bytes 2) (num_bytes n) (tree_bytes b))
      ∙ tagged_back l h low 2 (num_bytes n ++ tree_bytes b) rest (fun n b) m (omega arith)
      (fun_body h (read_tree l h 0) (read_tree l h 2) (read_stx (suc l) h) n b rest f.0 k.names-few
      (tree_back h k b f.1 (right_le 65536 (num_bytes 2 ++ num_bytes n) (tree_bytes b) s) 0 (meets_all b) l (le_of_suc-le-suc q) rest))
  tree_back h k (datum a) f s low m zero q rest = absurd (not-suc-le-zero q)
  tree_back h k (datum a) f s low m (suc l) q rest =
      ap (λ (z : List ℕ). read_tree (suc l) h low (z ++ rest)) (append_assoc (num_bytes 3) (num_bytes (tag_of a)) (num_bytes (content_of a)))
      ∙ tagged_back l h low 3 (num_bytes (tag_of a) ++ num_bytes (content_of a)) rest (datum a) (le_trans m (omega arith)) (omega arith)
      (datum_body h (read_tree l h 0) (read_tree l h 2) (read_stx (suc l) h) a rest k.symbols-few f)
  tree_back h k (lst p) f s low m zero q rest = absurd (not-suc-le-zero q)
  tree_back h k (lst p) f s low m (suc l) q rest =
      let short : length (trees_bytes p) ≤ 65536 = right_le 65536 (num_bytes 4 ++ num_bytes (tcount p)) (trees_bytes p) s in
      ap (λ (z : List ℕ). read_tree (suc l) h low (z ++ rest)) (append_assoc (num_bytes 4) (num_bytes (tcount p)) (trees_bytes p))
      ∙ tagged_back l h low 4 (num_bytes (tcount p) ++ trees_bytes p) rest (lst p) (le_trans m (omega arith)) (omega arith)
      (lst_body h (read_tree l h 0) (read_tree l h 2) (read_stx (suc l) h) p rest (omega (arith, short, tcount_le p))
      (values_back h k p f short l (le_of_suc-le-suc q) rest))
  tree_back h k (stx x) f s low m zero q rest = absurd (deep x q)
  tree_back h k (stx x) f s low m (suc l) q rest =
      tagged_back l h low 5 (stx_bytes x) rest (stx x) (le_trans m (omega arith)) (le_refl 5)
      (stx_body h (read_tree l h 0) (read_tree l h 2) (read_stx (suc l) h) x rest
      (stx_back h k.scopes-few k.symbols-few x f (right_le 65536 (num_bytes 5) (stx_bytes x) s) (suc l) q rest))

  pub trees_back : (h : Head) → Counts h → (p : Trees) → FitTs h p → length (trees_bytes p) ≤ 65536
      → (l : ℕ) → tnestings p ≤ l → (rest : List ℕ) → read_trees (tcount p) (read_tree l h 0) (trees_bytes p ++ rest) ≡ got p rest
  trees_back h k tnil f s l q rest = trees-nil (read_tree l h 0) rest
  trees_back h k (tcons t p) f s l q rest =
      trees-cons (read_tree l h 0) t p rest
      (tree_back h k t f.0 (left_le 65536 (tree_bytes t) (trees_bytes p) s) 0 (meets_all t) l (le_trans (le-max_left (tnesting t) (tnestings p)) q) (trees_bytes p ++ rest))
      (trees_back h k p f.1 (right_le 65536 (tree_bytes t) (trees_bytes p) s) l (le_trans (le-max_right (tnesting t) (tnestings p)) q) rest)

  pub values_back : (h : Head) → Counts h → (p : Trees) → FitVs h p → length (trees_bytes p) ≤ 65536
      → (l : ℕ) → tnestings p ≤ l → (rest : List ℕ) → read_trees (tcount p) (read_tree l h 2) (trees_bytes p ++ rest) ≡ got p rest
  values_back h k tnil f s l q rest = trees-nil (read_tree l h 2) rest
  values_back h k (tcons t p) f s l q rest =
      trees-cons (read_tree l h 2) t p rest
      (tree_back h k t f.1 (left_le 65536 (tree_bytes t) (trees_bytes p) s) 2 (meets_value t f.0) l (le_trans (le-max_left (tnesting t) (tnestings p)) q) (trees_bytes p ++ rest))
      (values_back h k p f.2 (right_le 65536 (tree_bytes t) (trees_bytes p) s) l (le_trans (le-max_right (tnesting t) (tnestings p)) q) rest)
