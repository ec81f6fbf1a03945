-- Atoms and syntax objects: what is read keeps the limits and is written again the same; what keeps the limits is read back.
use mathlib.Core.Path.{◌≡◌, refl, sym, ap, ◌∙◌, subst}
use Prim.Native.Nat.{ℕ, zero, suc, ◌≤◌, ◌<◌, zero-le, suc-le-suc}
use native.Mathlib.Nat.{le_refl, le_trans, le-max_left, le-max_right, max-le, not-suc-le-zero, le_of_suc-le-suc}
use native.Mathlib.Omega.{arith}
use mathlib.Core.Bool.{Bool, true, false}
use mathlib.Core.List.{List, [], ◌++◌, append_assoc}
use lib.Dec.{eqb}
use lib.ListN.{length}
use Rattle.model.specs.Limits.{last_point, last_primitive, last_rung_word}
use Rattle.model.specs.Refusals.{layout, over_limit}
use Rattle.model.specs.Objects.{Atom, symbol, number, point, prim, rung, tag_of, content_of, Sets, Stx, atom, list, Stxs, nil, cons, count, nesting, nestings}
use Rattle.model.specs.Reading.{got, Reader, num, num_up_to, num_below, read_set, read_sets, read_atom, read_parts, read_content, read_stx, Head, symbols}
use Rattle.model.specs.Writing.{num_bytes, set_bytes, sets_bytes, stx_bytes, stxs_bytes}
use borrow.Author.Tests.{eqb-true}
use Rattle.laws.specs.Ordered.{SetsIn}
use Rattle.codec_laws.specs.WellFormed.{Bytes, AtomFits, StxFits, StxsFit}
use Rattle.codec_laws.proofs.NumberTrip.{num_back, fault≢got}
use Rattle.codec_laws.proofs.Sequence.{next-got, moved, Wrote, wrote, join, num_w, up_to_w, below_w, up_to_back, below_back}
use Rattle.codec_laws.proofs.SetTrip.{set_same, set_back}
use Rattle.codec_laws.proofs.Lengths.{left_le, right_le, count_le}

-- ---- three sets

set_w : (n : ℕ) (v : ℕ) (s rest : List ℕ) → n ≤ 256 → Bytes s → read_set n s ≡ got v rest → Wrote (set_bytes v) s rest
set_w n v s rest h b e = wrote (set_bytes v) s rest b (set_same n v s rest h b e).1

pub sets_w : (n : ℕ) (c : Sets) (s rest : List ℕ) → n ≤ 256 → Bytes s → read_sets n s ≡ got c rest → Wrote (sets_bytes c) s rest × SetsIn n c
unfolding read_sets sets_bytes
sets_w n c s rest h b e =
    let g₁ = next-got (read_set n s) _ c rest e in
    let w₁ = set_w n g₁.0 s g₁.1 h b g₁.2 in
    let g₂ = next-got (read_set n g₁.1) _ c rest g₁.3 in
    let w₂ = set_w n g₂.0 g₁.1 g₂.1 h w₁.1 g₂.2 in
    let g₃ = next-got (read_set n g₂.1) _ c rest g₂.3 in
    let w₃ = set_w n g₃.0 g₂.1 g₃.1 h w₂.1 g₃.2 in
    moved (λ (z : Sets) (r : List ℕ). Wrote (sets_bytes z) s r × SetsIn n z) (record { at0 = g₁.0; at1 = g₂.0; at2 = g₃.0 }) c g₃.1 rest g₃.3 (
      join (set_bytes g₁.0 ++ set_bytes g₂.0) (set_bytes g₃.0) s g₂.1 g₃.1 (join (set_bytes g₁.0) (set_bytes g₂.0) s g₁.1 g₂.1 w₁ w₂) w₃,
      ((set_same n g₁.0 s g₁.1 h b g₁.2).0, (set_same n g₂.0 g₁.1 g₂.1 h w₁.1 g₂.2).0, (set_same n g₃.0 g₂.1 g₃.1 h w₂.1 g₃.2).0),
    )

pub sets_back : (n : ℕ) (c : Sets) (rest : List ℕ) → n ≤ 256 → SetsIn n c → read_sets n (sets_bytes c ++ rest) ≡ got c rest
unfolding read_sets sets_bytes
sets_back n c rest h i =
    rw (
      append_assoc (set_bytes c.at0 ++ set_bytes c.at1) (set_bytes c.at2) rest,
      append_assoc (set_bytes c.at0) (set_bytes c.at1) (set_bytes c.at2 ++ rest),
      set_back n c.at0 (set_bytes c.at1 ++ (set_bytes c.at2 ++ rest)) h i.0,
      set_back n c.at1 (set_bytes c.at2 ++ rest) h i.1,
      set_back n c.at2 rest h i.2,
    )

-- ---- atoms

-- an atom read by its tag t
abbrev AtomTook : Head → ℕ → List ℕ → Atom → List ℕ → Type 0
AtomTook h t s a rest = Wrote (num_bytes (content_of a)) s rest × (tag_of a ≡ t) × AtomFits (symbols h) a

pub atom_w : (h : Head) (t : ℕ) (a : Atom) (s rest : List ℕ) → Bytes s → read_atom h t s ≡ got a rest
    → Wrote (num_bytes (content_of a)) s rest × (tag_of a ≡ t) × AtomFits (symbols h) a
unfolding read_atom content_of tag_of
atom_w h zero a s rest b e =
    let g = next-got (num_below (symbols h) s) _ a rest e in
    let w = below_w (symbols h) g.0 s g.1 b g.2 in
    moved (AtomTook h 0 s) (symbol g.0) a g.1 rest g.3 (w.0, refl, w.1)
atom_w h (suc zero) a s rest b e =
    let g = next-got (num s) _ a rest e in
    let w = num_w g.0 s g.1 b g.2 in
    moved (AtomTook h 1 s) (number g.0) a g.1 rest g.3 (w.0, refl, w.1)
atom_w h (suc (suc zero)) a s rest b e =
    let g = next-got (num_up_to over_limit last_point s) _ a rest e in
    let w = up_to_w over_limit last_point g.0 s g.1 b g.2 in
    moved (AtomTook h 2 s) (point g.0) a g.1 rest g.3 (w.0, refl, w.1)
atom_w h (suc (suc (suc zero))) a s rest b e =
    let g = next-got (num_up_to over_limit last_primitive s) _ a rest e in
    let w = up_to_w over_limit last_primitive g.0 s g.1 b g.2 in
    moved (AtomTook h 3 s) (prim g.0) a g.1 rest g.3 (w.0, refl, w.1)
atom_w h (suc (suc (suc (suc zero)))) a s rest b e =
    let g = next-got (num_up_to over_limit last_rung_word s) _ a rest e in
    let w = up_to_w over_limit last_rung_word g.0 s g.1 b g.2 in
    moved (AtomTook h 4 s) (rung g.0) a g.1 rest g.3 (w.0, refl, w.1)
atom_w h (suc (suc (suc (suc (suc t))))) a s rest b e = absurd (fault≢got layout a rest e)

pub atom_back : (h : Head) (a : Atom) (rest : List ℕ) → symbols h < 4294967296 → AtomFits (symbols h) a
    → read_atom h (tag_of a) (num_bytes (content_of a) ++ rest) ≡ got a rest
unfolding read_atom tag_of content_of
atom_back h (symbol x) rest k f = rw (below_back (symbols h) x rest f (omega arith))
atom_back h (number x) rest k f = rw (num_back x rest f)
atom_back h (point x) rest k f = rw (up_to_back over_limit 1023 x rest f (omega arith))
atom_back h (prim x) rest k f = rw (up_to_back over_limit 9 x rest f (omega arith))
atom_back h (rung x) rest k f = rw (up_to_back over_limit 15 x rest f (omega arith))

pub tag_le : (a : Atom) → tag_of a ≤ 4
unfolding tag_of
tag_le (symbol x) = omega arith
tag_le (number x) = omega arith
tag_le (point x) = omega arith
tag_le (prim x) = omega arith
tag_le (rung x) = omega arith

-- ---- objects read

-- an object read with l levels left
abbrev pub StxTook : ℕ → Head → List ℕ → Stx → List ℕ → Type 0
StxTook l h s x rest = Wrote (stx_bytes x) s rest × StxFits (symbols h) h.scopes x × (nesting x ≤ l)

abbrev PartW : ℕ → Head → Reader Stx → Type 0
PartW l h part = (x : Stx) (s rest : List ℕ) → Bytes s → part s ≡ got x rest → StxTook l h s x rest

abbrev PartsTook : ℕ → Head → ℕ → List ℕ → Stxs → List ℕ → Type 0
PartsTook l h c s p rest = Wrote (stxs_bytes p) s rest × (count p ≡ c) × StxsFit (symbols h) h.scopes p × (nestings p ≤ l)

parts_w : (l : ℕ) (h : Head) (part : Reader Stx) → PartW l h part → (c : ℕ) (p : Stxs) (s rest : List ℕ) → Bytes s → read_parts c part s ≡ got p rest
    → PartsTook l h c s p rest
unfolding read_parts stxs_bytes count nesting
parts_w l h part k zero p s rest b e = moved (PartsTook l h 0 s) nil p s rest e (wrote [] s s b refl, refl, tt, zero-le)
parts_w l h part k (suc c) p s rest b e =
    let g = next-got (part s) _ p rest e in
    let x = k g.0 s g.1 b g.2 in
    let r = next-got (read_parts c part g.1) _ p rest g.3 in
    let q = parts_w l h part k c r.0 g.1 r.1 x.0.1 r.2 in
    moved (PartsTook l h (suc c) s) (cons g.0 r.0) p r.1 rest r.3
    (join (stx_bytes g.0) (stxs_bytes r.0) s g.1 r.1 x.0 q.0, ap suc q.1, (x.1, q.2), max-le x.2 q.3)

content_w : (l : ℕ) (h : Head) (part : Reader Stx) → PartW l h part → (c : Sets) (t : ℕ) (b : Bool) → eqb t 5 ≡ b → (x : Stx) (s₀ s rest : List ℕ)
    → Wrote (num_bytes t ++ sets_bytes c) s₀ s → SetsIn h.scopes c → read_content h part c t b s ≡ got x rest → StxTook (suc l) h s₀ x rest
unfolding read_content stx_bytes nesting
content_w l h part k c t true q x s₀ s rest w i e =
    let n = next-got (num s) _ x rest e in
    let w₁ = num_w n.0 s n.1 w.1 n.2 in
    let r = next-got (read_parts n.0 part n.1) _ x rest n.3 in
    let w₂ = parts_w l h part k n.0 r.0 n.1 r.1 w₁.0.1 r.2 in
    moved (StxTook (suc l) h s₀) (list c r.0) x r.1 rest r.3 (
      join (num_bytes 5 ++ sets_bytes c ++ num_bytes (count r.0)) (stxs_bytes r.0) s₀ n.1 r.1
          (join (num_bytes 5 ++ sets_bytes c) (num_bytes (count r.0)) s₀ s n.1
          (subst (λ (z : ℕ). Wrote (num_bytes z ++ sets_bytes c) s₀ s) (eqb-true t 5 q) w)
          (subst (λ (z : ℕ). Wrote (num_bytes z) s n.1) (sym w₂.1) w₁.0))
          w₂.0,
      (i, w₂.2),
      suc-le-suc w₂.3,
    )
content_w l h part k c t false q x s₀ s rest w i e =
    let a = next-got (read_atom h t s) _ x rest e in
    let w₁ = atom_w h t a.0 s a.1 w.1 a.2 in
    moved (StxTook (suc l) h s₀) (atom c a.0) x a.1 rest a.3 (
      join (num_bytes (tag_of a.0) ++ sets_bytes c) (num_bytes (content_of a.0)) s₀ s a.1
          (subst (λ (z : ℕ). Wrote (num_bytes z ++ sets_bytes c) s₀ s) (sym w₁.1) w) w₁.0,
      (i, w₁.2),
      suc-le-suc zero-le,
    )

pub stx_w : (l : ℕ) (h : Head) → h.scopes ≤ 256 → PartW l h (read_stx l h)
unfolding read_stx
stx_w zero h k x s rest b e = absurd (fault≢got over_limit x rest e)
stx_w (suc l) h k x s rest b e =
    let t = next-got (num_up_to layout 5 s) _ x rest e in
    let w₁ = up_to_w layout 5 t.0 s t.1 b t.2 in
    let c = next-got (read_sets h.scopes t.1) _ x rest t.3 in
    let w₂ = sets_w h.scopes c.0 t.1 c.1 k w₁.0.1 c.2 in
    content_w l h (read_stx l h) (stx_w l h k) c.0 t.0 (eqb t.0 5) refl x s c.1 rest
    (join (num_bytes t.0) (sets_bytes c.0) s t.1 c.1 w₁.0 w₂.0) w₂.1 c.3

-- ---- objects written

tag_not_5 : (a : Atom) → eqb (tag_of a) 5 ≡ false
unfolding tag_of
tag_not_5 (symbol x) = refl
tag_not_5 (number x) = refl
tag_not_5 (point x) = refl
tag_not_5 (prim x) = refl
tag_not_5 (rung x) = refl

-- the tag and the sets of an object, and then its content
object_back : (l : ℕ) (h : Head) (t : ℕ) (c : Sets) (w rest : List ℕ) (x : Stx) → h.scopes ≤ 256 → t ≤ 5 → SetsIn h.scopes c
    → read_content h (read_stx l h) c t (eqb t 5) (w ++ rest) ≡ got x rest
    → read_stx (suc l) h ((num_bytes t ++ sets_bytes c ++ w) ++ rest) ≡ got x rest
unfolding read_stx
object_back l h t c w rest x k i s e =
    rw (
      append_assoc (num_bytes t ++ sets_bytes c) w rest,
      append_assoc (num_bytes t) (sets_bytes c) (w ++ rest),
      up_to_back layout 5 t (sets_bytes c ++ (w ++ rest)) i (omega arith),
      sets_back h.scopes c (w ++ rest) k s,
    )
    e

atom-content : (l : ℕ) (h : Head) (c : Sets) (a : Atom) (rest : List ℕ) → symbols h < 4294967296 → AtomFits (symbols h) a
    → read_content h (read_stx l h) c (tag_of a) (eqb (tag_of a) 5) (num_bytes (content_of a) ++ rest) ≡ got (atom c a) rest
unfolding read_content
atom-content l h c a rest k f = rw (tag_not_5 a, atom_back h a rest k f)

list-content : (l : ℕ) (h : Head) (c : Sets) (p : Stxs) (rest : List ℕ) → count p < 4294967296
    → read_parts (count p) (read_stx l h) (stxs_bytes p ++ rest) ≡ got p rest
    → read_content h (read_stx l h) c 5 true ((num_bytes (count p) ++ stxs_bytes p) ++ rest) ≡ got (list c p) rest
unfolding read_content
list-content l h c p rest n e =
    rw (append_assoc (num_bytes (count p)) (stxs_bytes p) rest, num_back (count p) (stxs_bytes p ++ rest) n, e)

parts-cons : (part : Reader Stx) (x : Stx) (p : Stxs) (w v rest : List ℕ) → part (w ++ (v ++ rest)) ≡ got x (v ++ rest)
    → read_parts (count p) part (v ++ rest) ≡ got p rest → read_parts (suc (count p)) part ((w ++ v) ++ rest) ≡ got (cons x p) rest
unfolding read_parts
parts-cons part x p w v rest a b = rw (append_assoc w v rest, a, b)

parts-nil : (part : Reader Stx) (rest : List ℕ) → read_parts 0 part rest ≡ got nil rest
unfolding read_parts
parts-nil part rest = refl

mutual
  unfolding stx_bytes nesting count

  pub stx_back : (h : Head) → h.scopes ≤ 256 → symbols h < 4294967296 → (x : Stx) → StxFits (symbols h) h.scopes x → length (stx_bytes x) ≤ 65536
      → (l : ℕ) → nesting x ≤ l → (rest : List ℕ) → read_stx l h (stx_bytes x ++ rest) ≡ got x rest
  stx_back h k j (atom c a) f n zero q rest = absurd (not-suc-le-zero q)
  stx_back h k j (atom c a) f n (suc l) q rest =
      object_back l h (tag_of a) c (num_bytes (content_of a)) rest (atom c a) k (le_trans (tag_le a) (omega arith)) f.0
      (atom-content l h c a rest j f.1)
  stx_back h k j (list c p) f n zero q rest = absurd (not-suc-le-zero q)
  stx_back h k j (list c p) f n (suc l) q rest =
      let short : length (stxs_bytes p) ≤ 65536 = right_le 65536 (num_bytes 5 ++ sets_bytes c ++ num_bytes (count p)) (stxs_bytes p) n in
      ap (λ (z : List ℕ). read_stx (suc l) h (z ++ rest)) (append_assoc (num_bytes 5 ++ sets_bytes c) (num_bytes (count p)) (stxs_bytes p))
      ∙ object_back l h 5 c (num_bytes (count p) ++ stxs_bytes p) rest (list c p) k (le_refl 5) f.0
      (list-content l h c p rest (omega (arith, short, count_le p)) (stxs_back h k j p f.1 short l (le_of_suc-le-suc q) rest))

  pub stxs_back : (h : Head) → h.scopes ≤ 256 → symbols h < 4294967296 → (p : Stxs) → StxsFit (symbols h) h.scopes p → length (stxs_bytes p) ≤ 65536
      → (l : ℕ) → nestings p ≤ l → (rest : List ℕ) → read_parts (count p) (read_stx l h) (stxs_bytes p ++ rest) ≡ got p rest
  stxs_back h k j nil f n l q rest = parts-nil (read_stx l h) rest
  stxs_back h k j (cons x p) f n l q rest =
      parts-cons (read_stx l h) x p (stx_bytes x) (stxs_bytes p) rest
      (stx_back h k j x f.0 (left_le 65536 (stx_bytes x) (stxs_bytes p) n) l (le_trans (le-max_left (nesting x) (nestings p)) q) (stxs_bytes p ++ rest))
      (stxs_back h k j p f.1 (right_le 65536 (stx_bytes x) (stxs_bytes p) n) l (le_trans (le-max_right (nesting x) (nestings p)) q) rest)
