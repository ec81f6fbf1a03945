-- What a definition that reads a thing has read on the way.
use mathlib.Core.Path.{◌≡◌, refl, sym, ap, ◌∙◌, subst}
use mathlib.Core.Bool.{Bool, true, false}
use mathlib.Core.List.{List}
use Prim.Native.Nat.{ℕ, zero, suc, ◌-◌}
use native.Mathlib.Omega.{arith}
use lib.Dec.{eqb, leb, ltb}
use Rattle.model.specs.Refusals.{Refusal, layout, over_limit}
use Rattle.model.specs.Objects as m
use Rattle.model.specs.Objects.{Atom, tag_of, content_of, Stx, Stxs, atom, list, nil, cons}
use Rattle.model.specs.Trees.{Tree, Trees, var, app, fun, datum, lst, stx, tnil, tcons, from_stxs}
use Rattle.model.specs.Limits.{last_point, last_primitive, last_rung_word}
use Rattle.model.specs.Reading.{Reader, got, need, num, num_up_to, num_below, Head, symbols, read_sets, read_atom, read_parts, read_content, read_stx, read_trees, read_app, read_tree_body, read_tree}
use borrow.Author.Tests.{eqb-true}
use Rattle.codec_laws.proofs.NumberTrip.{got-value, got-rest, fault≢got}
use Rattle.codec_laws.proofs.Sequence.{next-got, need-got, moved}
use Rattle.table.specs.Tags.{application_tag, list_value_tag}
use Rattle.builder.specs.Reads.{ObjectRead, object-read, ObjectsRead, objects-read, TreeRead, tree-read, TreesRead, trees-read, AtomRead, atom-read, FunctionRead, function_read, ListRead, application_read, list_read}
use Rattle.builder.specs.Fronts.{ObjectFront}

-- ---- numbers with a limit are numbers

up_to-num : (c : Refusal) (m v : ℕ) (s rest : List ℕ) → num_up_to c m s ≡ got v rest → num s ≡ got v rest
unfolding num_up_to
up_to-num c m v s rest e =
    let g = next-got (num s) _ v rest e in
    let n = next-got (need c (leb g.0 m) g.1) _ v rest g.3 in
    let q = need-got c (leb g.0 m) n.0 g.1 n.1 n.2 in
    moved (λ (z : ℕ) (r : List ℕ). num s ≡ got z r) g.0 v n.1 rest n.3 (g.2 ∙ ap (got g.0) q.1)

below-num : (m v : ℕ) (s rest : List ℕ) → num_below m s ≡ got v rest → num s ≡ got v rest
unfolding num_below
below-num m v s rest e =
    let g = next-got (num s) _ v rest e in
    let n = next-got (need layout (ltb g.0 m) g.1) _ v rest g.3 in
    let q = need-got layout (ltb g.0 m) n.0 g.1 n.1 n.2 in
    moved (λ (z : ℕ) (r : List ℕ). num s ≡ got z r) g.0 v n.1 rest n.3 (g.2 ∙ ap (got g.0) q.1)

abbrev AtomIs : ℕ → List ℕ → Atom → List ℕ → Type 0
AtomIs t s a rest = (tag_of a ≡ t) × (num s ≡ got (content_of a) rest)

pub atom-is : (h : Head) (t : ℕ) (a : Atom) (s rest : List ℕ) → read_atom h t s ≡ got a rest → (tag_of a ≡ t) × (num s ≡ got (content_of a) rest)
unfolding read_atom content_of tag_of
atom-is h zero a s rest e =
    let g = next-got (num_below (symbols h) s) _ a rest e in
    moved (AtomIs 0 s) (m.symbol g.0) a g.1 rest g.3 (refl, below-num (symbols h) g.0 s g.1 g.2)
atom-is h (suc zero) a s rest e =
    let g = next-got (num s) _ a rest e in
    moved (AtomIs 1 s) (m.number g.0) a g.1 rest g.3 (refl, g.2)
atom-is h (suc (suc zero)) a s rest e =
    let g = next-got (num_up_to over_limit last_point s) _ a rest e in
    moved (AtomIs 2 s) (m.point g.0) a g.1 rest g.3 (refl, up_to-num over_limit last_point g.0 s g.1 g.2)
atom-is h (suc (suc (suc zero))) a s rest e =
    let g = next-got (num_up_to over_limit last_primitive s) _ a rest e in
    moved (AtomIs 3 s) (m.prim g.0) a g.1 rest g.3 (refl, up_to-num over_limit last_primitive g.0 s g.1 g.2)
atom-is h (suc (suc (suc (suc zero)))) a s rest e =
    let g = next-got (num_up_to over_limit last_rung_word s) _ a rest e in
    moved (AtomIs 4 s) (m.rung g.0) a g.1 rest g.3 (refl, up_to-num over_limit last_rung_word g.0 s g.1 g.2)
atom-is h (suc (suc (suc (suc (suc t))))) a s rest e = absurd (fault≢got layout a rest e)

-- ---- an object

-- what follows the front
pub data ObjectBody (scopes tag : ℕ) (sets : m.Sets) (n : ℕ) (u : List ℕ) : Tree → List ℕ → Type 0 where
  an_atom : {a : Atom} → tag_of a ≡ tag → content_of a ≡ n → ObjectBody scopes tag sets n u (stx (atom sets a)) u
  a_list : {ps : Stxs} {rest : List ℕ} → tag ≡ 5 → ObjectsRead scopes n u (from_stxs ps) rest → ObjectBody scopes tag sets n u (stx (list sets ps)) rest

pub record ObjectAt (scopes : ℕ) (s : List ℕ) (t : Tree) (rest : List ℕ) : Type 0 where
  pub tag : ℕ
  pub sets : m.Sets
  pub n : ℕ
  pub u : List ℕ
  pub front : ObjectFront scopes s tag sets n u
  pub body : ObjectBody scopes tag sets n u t rest

record Content (scopes tag : ℕ) (sets : m.Sets) (v : List ℕ) (t : Tree) (rest : List ℕ) : Type 0 where
  n : ℕ
  u : List ℕ
  number : num v ≡ got n u
  body : ObjectBody scopes tag sets n u t rest

content : (h : Head) (l : ℕ) (c : m.Sets) (t : ℕ) (b : Bool) → eqb t 5 ≡ b → (v : List ℕ) (x : Stx) (rest : List ℕ) → read_content h (read_stx l h) c t b v ≡ got x rest
    → Content h.scopes t c v (stx x) rest
unfolding read_content
content h l c t true q v x rest e =
    let g = next-got (num v) _ x rest e in
    let r = next-got (read_parts g.0 (read_stx l h) g.1) _ x rest g.3 in
    moved (λ (z : Stx) (w : List ℕ). Content h.scopes t c v (stx z) w) (list c r.0) x r.1 rest r.3
    (record { n = g.0; u = g.1; number = g.2; body = a_list (eqb-true t 5 q) (objects-read l h r.0 refl r.2) })
content h l c t false q v x rest e =
    let g = next-got (read_atom h t v) _ x rest e in
    let a = atom-is h t g.0 v g.1 g.2 in
    moved (λ (z : Stx) (w : List ℕ). Content h.scopes t c v (stx z) w) (atom c g.0) x g.1 rest g.3
    (record { n = content_of g.0; u = g.1; number = a.1; body = an_atom a.0 refl })

object_of : (h : Head) (levels : ℕ) (s : List ℕ) (x : Stx) (rest : List ℕ) → read_stx levels h s ≡ got x rest → ObjectAt h.scopes s (stx x) rest
unfolding read_stx
object_of h zero s x rest e = absurd (fault≢got over_limit x rest e)
object_of h (suc l) s x rest e =
    let g = next-got (num_up_to layout 5 s) _ x rest e in
    let c = next-got (read_sets h.scopes g.1) _ x rest g.3 in
    let r = content h l c.0 g.0 (eqb g.0 5) refl c.1 x rest c.3 in
    record {
      tag = g.0;
      sets = c.0;
      n = r.n;
      u = r.u;
      front = record { behind-tag = g.1; behind-sets = c.1; tag_read = up_to-num layout 5 g.0 s g.1 g.2; sets-read = c.2; number_read = r.number };
      body = r.body;
    }

pub object-at : {scopes : ℕ} {s rest : List ℕ} {t : Tree} → ObjectRead scopes s t rest → ObjectAt scopes s t rest
object-at {s = s} {rest = rest} (object-read levels h {x = x} z e) = subst (λ (n : ℕ). ObjectAt n s (stx x) rest) z (object_of h levels s x rest e)

-- ---- parts

pub record Part (R : List ℕ → Tree → List ℕ → Type 0) (RP : ℕ → List ℕ → Trees → List ℕ → Type 0) (n : ℕ) (s : List ℕ) (ts : Trees) (rest : List ℕ) : Type 0 where
  pub first : Tree
  pub others : Trees
  pub between : List ℕ
  pub is : ts ≡ tcons first others
  pub first_read : R s first between
  pub others-read : RP (n - 1) between others rest

-- a reader of so many things, by a reader of one
pub record Ends (RP : ℕ → List ℕ → Trees → List ℕ → Type 0) : Type 0 where
  pub none : {n : ℕ} {s rest : List ℕ} {ts : Trees} → n ≡ 0 → RP n s ts rest → (ts ≡ tnil) × (rest ≡ s)

pub record Steps (R : List ℕ → Tree → List ℕ → Type 0) (RP : ℕ → List ℕ → Trees → List ℕ → Type 0) : Type 0 where
  pub some : {n : ℕ} {s rest : List ℕ} {ts : Trees} → ¬ (n ≡ 0) → RP n s ts rest → Part R RP n s ts rest

less : (n : ℕ) → n ≡ suc n - 1
less n = omega arith

module _ (scopes : ℕ) where
  objects-none : {n : ℕ} {s rest : List ℕ} {ts : Trees} → n ≡ 0 → ObjectsRead scopes n s ts rest → (ts ≡ tnil) × (rest ≡ s)
  unfolding read_parts from_stxs
  objects-none {n = zero} {s = s} {rest = rest} h (objects-read l hd ps z e) = (ap from_stxs (sym (got-value nil ps s rest e)), sym (got-rest nil ps s rest e))
  objects-none {n = suc n} h (objects-read l hd ps z e) = absurd (omega arith)

  objects-some : {n : ℕ} {s rest : List ℕ} {ts : Trees} → ¬ (n ≡ 0) → ObjectsRead scopes n s ts rest → Part (ObjectRead scopes) (ObjectsRead scopes) n s ts rest
  unfolding read_parts from_stxs
  objects-some {n = zero} h (objects-read l hd ps z e) = absurd (h refl)
  objects-some {n = suc n} {s = s} {rest = rest} h (objects-read l hd ps z e) =
      let g = next-got (read_stx l hd s) _ ps rest e in
      let r = next-got (read_parts n (read_stx l hd) g.1) _ ps rest g.3 in
      let q : read_parts n (read_stx l hd) g.1 ≡ got r.0 rest = r.2 ∙ ap (got r.0) (got-rest (cons g.0 r.0) ps r.1 rest r.3) in
      record {
        first = stx g.0;
        others = from_stxs r.0;
        between = g.1;
        is = ap from_stxs (sym (got-value (cons g.0 r.0) ps r.1 rest r.3));
        first_read = object-read l hd z g.2;
        others-read = subst (λ (k : ℕ). ObjectsRead scopes k g.1 (from_stxs r.0) rest) (less n) (objects-read l hd r.0 z q);
      }

  pub object_steps : Steps (ObjectRead scopes) (ObjectsRead scopes)
  object_steps = record { some = λ h r. objects-some h r }

  pub objects-end : Ends (ObjectsRead scopes)
  objects-end = record { none = λ h r. objects-none h r }

  trees-none : {n : ℕ} {s rest : List ℕ} {ts : Trees} → n ≡ 0 → TreesRead scopes n s ts rest → (ts ≡ tnil) × (rest ≡ s)
  unfolding read_trees
  trees-none {n = zero} {s = s} {rest = rest} {ts = ts} h (trees-read l hd low z e) = (sym (got-value tnil ts s rest e), sym (got-rest tnil ts s rest e))
  trees-none {n = suc n} h (trees-read l hd low z e) = absurd (omega arith)

  trees-some : {n : ℕ} {s rest : List ℕ} {ts : Trees} → ¬ (n ≡ 0) → TreesRead scopes n s ts rest → Part (TreeRead scopes) (TreesRead scopes) n s ts rest
  unfolding read_trees
  trees-some {n = zero} h (trees-read l hd low z e) = absurd (h refl)
  trees-some {n = suc n} {s = s} {rest = rest} {ts = ts} h (trees-read l hd low z e) =
      let g = next-got (read_tree l hd low s) _ ts rest e in
      let r = next-got (read_trees n (read_tree l hd low) g.1) _ ts rest g.3 in
      let q : read_trees n (read_tree l hd low) g.1 ≡ got r.0 rest = r.2 ∙ ap (got r.0) (got-rest (tcons g.0 r.0) ts r.1 rest r.3) in
      record {
        first = g.0;
        others = r.0;
        between = g.1;
        is = sym (got-value (tcons g.0 r.0) ts r.1 rest r.3);
        first_read = tree-read l hd low z g.2;
        others-read = subst (λ (k : ℕ). TreesRead scopes k g.1 r.0 rest) (less n) (trees-read l hd low z q);
      }

  pub tree_steps : Steps (TreeRead scopes) (TreesRead scopes)
  tree_steps = record { some = λ h r. trees-some h r }

  pub trees-end : Ends (TreesRead scopes)
  trees-end = record { none = λ h r. trees-none h r }

-- ---- a tree

-- what follows the tag
pub data TreeBody (scopes : ℕ) : ℕ → List ℕ → Tree → List ℕ → Type 0 where
  a_variable : {n : ℕ} {u rest : List ℕ} → num u ≡ got n rest → TreeBody scopes 0 u (var n) rest
  an_application : {n : ℕ} {u v rest : List ℕ} {t : Tree} → num u ≡ got n v → ListRead scopes n application_tag v t rest → TreeBody scopes 1 u t rest
  a_function : {n : ℕ} {u v rest : List ℕ} {t : Tree} → num u ≡ got n v → FunctionRead scopes n v t rest → TreeBody scopes 2 u t rest
  an_atom_value : {n : ℕ} {u v rest : List ℕ} {t : Tree} → num u ≡ got n v → AtomRead n v t rest → TreeBody scopes 3 u t rest
  a_list_value : {n : ℕ} {u v rest : List ℕ} {t : Tree} → num u ≡ got n v → ListRead scopes n list_value_tag v t rest → TreeBody scopes 4 u t rest
  a_syntax_value : {u rest : List ℕ} {t : Tree} → ObjectRead scopes u t rest → TreeBody scopes 5 u t rest

pub record TreeAt (scopes : ℕ) (s : List ℕ) (t : Tree) (rest : List ℕ) : Type 0 where
  pub tag : ℕ
  pub u : List ℕ
  pub tag_read : num s ≡ got tag u
  pub body : TreeBody scopes tag u t rest

one_more : (part : Reader Tree) (n : ℕ) {v u rest : List ℕ} {f : Tree} {r : Trees} → part v ≡ got f u → read_trees n part u ≡ got r rest → read_trees (suc n) part v ≡ got (tcons f r) rest
unfolding read_trees
one_more part n p q = rw (p, q)

application_of : (h : Head) (l n : ℕ) (v : List ℕ) (t : Tree) (rest : List ℕ) → read_app n (read_tree l h 0) v ≡ got t rest → ListRead h.scopes n application_tag v t rest
unfolding read_app read_trees
application_of h l zero v t rest e = absurd (fault≢got layout t rest e)
application_of h l (suc n) v t rest e =
    let g = next-got (read_tree l h 0 v) _ t rest e in
    let r = next-got (read_trees n (read_tree l h 0) g.1) _ t rest g.3 in
    moved (λ (z : Tree) (w : List ℕ). ListRead h.scopes (suc n) application_tag v z w) (app g.0 r.0) t r.1 rest r.3 (application_read (trees-read l h 0 refl (one_more (read_tree l h 0) n g.2 r.2)))

body_of : (h : Head) (l tag : ℕ) (u : List ℕ) (t : Tree) (rest : List ℕ) → read_tree_body h (read_tree l h 0) (read_tree l h 2) (read_stx (suc l) h) tag u ≡ got t rest
    → TreeBody h.scopes tag u t rest
unfolding read_tree_body
body_of h l zero u t rest e =
    let g = next-got (num_below h.names u) _ t rest e in
    moved (TreeBody h.scopes 0 u) (var g.0) t g.1 rest g.3 (a_variable (below-num h.names g.0 u g.1 g.2))
body_of h l (suc zero) u t rest e =
    let g = next-got (num u) _ t rest e in
    an_application g.2 (application_of h l g.0 g.1 t rest g.3)
body_of h l (suc (suc zero)) u t rest e =
    let g = next-got (num_below h.names u) _ t rest e in
    let b = next-got (read_tree l h 0 g.1) _ t rest g.3 in
    moved (TreeBody h.scopes 2 u) (fun g.0 b.0) t b.1 rest b.3
    (a_function (below-num h.names g.0 u g.1 g.2) (function_read (tree-read l h 0 refl b.2)))
body_of h l (suc (suc (suc zero))) u t rest e =
    let g = next-got (num u) _ t rest e in
    let b = next-got (read_atom h g.0 g.1) _ t rest g.3 in
    let a = atom-is h g.0 b.0 g.1 b.1 b.2 in
    moved (TreeBody h.scopes 3 u) (datum b.0) t b.1 rest b.3 (an_atom_value g.2 (atom-read a.0 a.1))
body_of h l (suc (suc (suc (suc zero)))) u t rest e =
    let g = next-got (num u) _ t rest e in
    let r = next-got (read_trees g.0 (read_tree l h 2) g.1) _ t rest g.3 in
    moved (TreeBody h.scopes 4 u) (lst r.0) t r.1 rest r.3 (a_list_value g.2 (list_read (trees-read l h 2 refl r.2)))
body_of h l (suc (suc (suc (suc (suc zero))))) u t rest e =
    let g = next-got (read_stx (suc l) h u) _ t rest e in
    moved (TreeBody h.scopes 5 u) (stx g.0) t g.1 rest g.3 (a_syntax_value (object-read (suc l) h refl g.2))
body_of h l (suc (suc (suc (suc (suc (suc n)))))) u t rest e = absurd (fault≢got layout t rest e)

tree_of : (h : Head) (levels low : ℕ) (s : List ℕ) (t : Tree) (rest : List ℕ) → read_tree levels h low s ≡ got t rest → TreeAt h.scopes s t rest
unfolding read_tree
tree_of h zero low s t rest e = absurd (fault≢got over_limit t rest e)
tree_of h (suc l) low s t rest e =
    let g = next-got (num s) _ t rest e in
    let n = next-got (need layout (leb low g.0) g.1) _ t rest g.3 in
    let q = need-got layout (leb low g.0) n.0 g.1 n.1 n.2 in
    record { tag = g.0; u = n.1; tag_read = g.2 ∙ ap (got g.0) q.1; body = body_of h l g.0 n.1 t rest n.3 }

pub tree-at : {scopes : ℕ} {s rest : List ℕ} {t : Tree} → TreeRead scopes s t rest → TreeAt scopes s t rest
tree-at {s = s} {rest = rest} {t = t} (tree-read levels h low z e) = subst (λ (n : ℕ). TreeAt n s t rest) z (tree_of h levels low s t rest e)
