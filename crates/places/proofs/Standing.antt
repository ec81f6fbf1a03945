-- Trees at the front of some bytes: the first thing of them is read, and the parts behind it are trees again. So as many things as a tree's
-- size are read along its bytes, and they are its things.
use Prim.Native.Nat.{ℕ, suc, ◌≤◌, ◌<◌}
use mathlib.Core.Path.{◌≡◌, refl, sym, ap, ◌∙◌}
use mathlib.Core.List.{List, ◌∷◌, ◌++◌, append_assoc, append-nil}
use native.Mathlib.Omega.{arith}
use native.Mathlib.Nat.{max-le}
use lib.ListN.{length, length-append}
use borrow.Author.Tests.{ne_eqb}
use Rattle.model.specs.Limits.{most_nesting}
use Rattle.model.specs.Objects.{Atom, Stx, tag_of, content_of, nesting, size}
use Rattle.model.specs.Trees.{var, app, fun, datum, lst, stx, Trees, tnil, tcons, tcount, tsize, tsize_by, tsizes_by, tnesting, tnestings}
use Rattle.model.specs.Trees as m
use Rattle.model.specs.Reading.{got, symbols}
use Rattle.model.specs.Writing.{num_bytes, stx_bytes, tree_bytes, trees_bytes}
use Rattle.codec_laws.specs.WellFormed.{AtomFits, StxFits, TreeFits, TreesFit, ValuesFit}
use Rattle.codec_laws.proofs.NumberTrip.{num_back}
use Rattle.codec_laws.proofs.Lengths.{left_le, right_le, num-some, tcount_le}
use Rattle.codec_laws.proofs.ObjectTrip.{tag_le, stx_back}
use Rattle.requests.specs.Uses as u
use Rattle.requests.specs.Uses.{variable, other, things, things_all}
use Rattle.requests.proofs.Uses.{tsizes}
use Rattle.numbers.specs.Limits.{most_image}
use Rattle.numbers.specs.Answers.{kept}
use Rattle.head.specs.declared.Counts.{Counts}
use Rattle.roots.specs.MeasuredObjects.{measure_stx}
use Rattle.roots.proofs.ObjectsKept.{stx-is}
use Rattle.bits.proofs.Walked.{content-small}
use Rattle.places.specs.Reading.{thing, read_content, read_held, read_atom, read_object, read_behind, read_thing, parts_of, thing_of}
use Rattle.places.specs.Standing.{Declared, At}
use Rattle.places.specs.declared.Thing.{Thing}

-- ---- a tree's first thing, and its parts

unfoldable pub front : m.Tree → Thing
unfolding tcount
front (var n) = thing 0 n
front (app h l) = thing 1 (suc (tcount l))
front (fun n b) = thing 2 n
front (datum a) = thing 3 0
front (lst l) = thing 4 (tcount l)
front (stx s) = thing 5 0

unfoldable pub parts : m.Tree → Trees
parts (var n) = tnil
parts (app h l) = tcons h l
parts (fun n b) = tcons b tnil
parts (datum a) = tnil
parts (lst l) = l
parts (stx s) = tnil

-- the bytes before its parts
unfoldable pub front_bytes : m.Tree → List ℕ
unfolding tcount tag_of content_of num_bytes stx_bytes
front_bytes (var n) = num_bytes 0 ++ num_bytes n
front_bytes (app h l) = num_bytes 1 ++ num_bytes (suc (tcount l))
front_bytes (fun n b) = num_bytes 2 ++ num_bytes n
front_bytes (datum a) = num_bytes 3 ++ num_bytes (tag_of a) ++ num_bytes (content_of a)
front_bytes (lst l) = num_bytes 4 ++ num_bytes (tcount l)
front_bytes (stx s) = num_bytes 5 ++ stx_bytes s

pub bytes_parted : (t : m.Tree) → tree_bytes t ≡ front_bytes t ++ trees_bytes (parts t)
unfolding tree_bytes trees_bytes front_bytes parts
bytes_parted (var n) = sym (append-nil (num_bytes 0 ++ num_bytes n))
bytes_parted (app h l) = append_assoc (num_bytes 1 ++ num_bytes (suc (tcount l))) (tree_bytes h) (trees_bytes l)
bytes_parted (fun n b) = ap (λ (z : List ℕ). (num_bytes 2 ++ num_bytes n) ++ z) (sym (append-nil (tree_bytes b)))
bytes_parted (datum a) = sym (append-nil (num_bytes 3 ++ num_bytes (tag_of a) ++ num_bytes (content_of a)))
bytes_parted (lst l) = refl
bytes_parted (stx s) = sym (append-nil (num_bytes 5 ++ stx_bytes s))

pub front-some : (t : m.Tree) → 1 ≤ length (front_bytes t)
unfolding front_bytes
front-some (var n) = omega (arith, length-append (num_bytes 0) (num_bytes n), num-some 0)
front-some (app h l) = omega (arith, length-append (num_bytes 1) (num_bytes (suc (tcount l))), num-some 1)
front-some (fun n b) = omega (arith, length-append (num_bytes 2) (num_bytes n), num-some 2)
front-some (datum a) = omega (arith, length-append (num_bytes 3 ++ num_bytes (tag_of a)) (num_bytes (content_of a)), length-append (num_bytes 3) (num_bytes (tag_of a)), num-some 3)
front-some (lst l) = omega (arith, length-append (num_bytes 4) (num_bytes (tcount l)), num-some 4)
front-some (stx s) = omega (arith, length-append (num_bytes 5) (stx_bytes s), num-some 5)

pub parts-count : (t : m.Tree) → parts_of (front t) ≡ tcount (parts t)
unfolding parts_of front parts tcount
parts-count (var n) = refl
parts-count (app h l) = refl
parts-count (fun n b) = refl
parts-count (datum a) = refl
parts-count (lst l) = refl
parts-count (stx s) = refl

pub things_parted : (t : m.Tree) → things t ≡ thing_of (front t) ∷ things_all (parts t)
unfolding things things_all thing_of front parts
things_parted (var n) = refl
things_parted (app h l) = refl
things_parted (fun n b) = ap (λ (z : List u.Thing). other ∷ z) (sym (append-nil (things b)))
things_parted (datum a) = refl
things_parted (lst l) = refl
things_parted (stx s) = refl

pub size_parted : (t : m.Tree) → tsize t ≡ suc (tsizes (parts t))
unfolding tsize tsizes tsize_by tsizes_by parts
size_parted (var n) = refl
size_parted (app h l) = refl
size_parted (fun n b) = omega arith
size_parted (datum a) = refl
size_parted (lst l) = refl
size_parted (stx s) = refl

parts_nested : (t : m.Tree) (n : ℕ) → tnesting t ≤ n → tnestings (parts t) ≤ n
unfolding tnesting tnestings parts
parts_nested (var x) n h = omega arith
parts_nested (app g l) n h = omega arith
parts_nested (fun x b) n h = max-le (omega arith) (omega arith)
parts_nested (datum a) n h = omega arith
parts_nested (lst l) n h = omega arith
parts_nested (stx s) n h = omega arith

values-are : (a b c : ℕ) (l : Trees) → ValuesFit a b c l → TreesFit a b c l
values-are a b c tnil f = tt
values-are a b c (tcons t l) f = (f.1, values-are a b c l f.2)

parts-fit : (a b c : ℕ) (t : m.Tree) → TreeFits a b c t → TreesFit a b c (parts t)
unfolding parts
parts-fit a b c (var n) f = tt
parts-fit a b c (app h l) f = f
parts-fit a b c (fun n t) f = (f.1, tt)
parts-fit a b c (datum x) f = tt
parts-fit a b c (lst l) f = values-are a b c l f
parts-fit a b c (stx s) f = tt

-- ---- several trees at the front of s

pub record AllAt (k : Counts) (s : List ℕ) (l : Trees) (rest : List ℕ) : Type 0 where
  pub declared : Declared k
  pub is : s ≡ trees_bytes l ++ rest
  pub fits : TreesFit k.symbols k.names k.scopes l
  pub shallow : tnestings l ≤ most_nesting
  pub short : length (trees_bytes l) ≤ most_image

-- ---- the first thing is read

module _ (k : Counts) (d : Declared k) where
  content_read_back : (tag x : ℕ) (rest : List ℕ) → (tag ≡ 3 → ⊥) → (tag ≡ 5 → ⊥) → tag < 4294967296 → x < 4294967296 → read_thing k ((num_bytes tag ++ num_bytes x) ++ rest) ≡ got (thing tag x) rest
  unfolding read_thing read_behind read_content
  content_read_back tag x rest a b h q =
      rw (append_assoc (num_bytes tag) (num_bytes x) rest, num_back tag (num_bytes x ++ rest) h, ne_eqb tag 3 a, ne_eqb tag 5 b, num_back x rest q) refl

  atom_read_back : (a : Atom) (rest : List ℕ) → AtomFits k.symbols a → read_thing k ((num_bytes 3 ++ num_bytes (tag_of a) ++ num_bytes (content_of a)) ++ rest) ≡ got (thing 3 0) rest
  unfolding read_thing read_behind read_atom read_held
  atom_read_back a rest f =
      rw (
        append_assoc (num_bytes 3 ++ num_bytes (tag_of a)) (num_bytes (content_of a)) rest,
        append_assoc (num_bytes 3) (num_bytes (tag_of a)) (num_bytes (content_of a) ++ rest),
        num_back 3 (num_bytes (tag_of a) ++ (num_bytes (content_of a) ++ rest)) (omega arith),
        num_back (tag_of a) (num_bytes (content_of a) ++ rest) (omega (arith, tag_le a)),
        num_back (content_of a) rest (content-small k.symbols a d.symbols-few f),
      )
      refl

  measured : (x : Stx) (rest : List ℕ) → StxFits k.symbols k.scopes x → nesting x ≤ 64 → length (stx_bytes x) ≤ 65536 → measure_stx k.symbols k.scopes 64 (stx_bytes x ++ rest) ≡ got (size x) rest
  measured x rest f n s =
      let h = d.head in
      let g : StxFits (symbols h) h.scopes x = rw (← d.symbols-are, ← d.scopes-are) f in
      let y : symbols h < 4294967296 = rw (← d.symbols-are) d.symbols-few in
      let z : h.scopes ≤ 256 = rw (← d.scopes-are) d.scopes-few in
      rw (d.symbols-are, d.scopes-are) (sym (stx-is h 64 (stx_bytes x ++ rest)) ∙ ap (kept size) (stx_back h z y x g s 64 n rest))

  object_read_back : (x : Stx) (rest : List ℕ) → StxFits k.symbols k.scopes x → nesting x ≤ 64 → length (stx_bytes x) ≤ 65536 → read_thing k ((num_bytes 5 ++ stx_bytes x) ++ rest) ≡ got (thing 5 0) rest
  unfolding read_thing read_behind read_object most_nesting
  object_read_back x rest f n s =
      rw (append_assoc (num_bytes 5) (stx_bytes x) rest, num_back 5 (stx_bytes x ++ rest) (omega arith), measured x rest f n s) refl

  front_read : (t : m.Tree) (rest : List ℕ) → TreeFits k.symbols k.names k.scopes t → tnesting t ≤ 64 → length (tree_bytes t) ≤ 65536 → read_thing k (front_bytes t ++ rest) ≡ got (front t) rest
  unfolding front_bytes front tnesting tree_bytes
  front_read (var n) rest f h s = content_read_back 0 n rest (λ q. omega arith) (λ q. omega arith) (omega arith) (omega (arith, d.names-few))
  front_read (app g l) rest f h s =
      let short = right_le 65536 (num_bytes 1 ++ num_bytes (suc (tcount l)) ++ tree_bytes g) (trees_bytes l) s in
      content_read_back 1 (suc (tcount l)) rest (λ q. omega arith) (λ q. omega arith) (omega arith) (omega (arith, tcount_le l))
  front_read (fun n b) rest f h s = content_read_back 2 n rest (λ q. omega arith) (λ q. omega arith) (omega arith) (omega (arith, d.names-few, f.0))
  front_read (datum a) rest f h s = atom_read_back a rest f
  front_read (lst l) rest f h s =
      let short = right_le 65536 (num_bytes 4 ++ num_bytes (tcount l)) (trees_bytes l) s in
      content_read_back 4 (tcount l) rest (λ q. omega arith) (λ q. omega arith) (omega arith) (omega (arith, tcount_le l))
  front_read (stx x) rest f h s = object_read_back x rest f h (right_le 65536 (num_bytes 5) (stx_bytes x) s)

-- ---- of a tree at the front of s

module _ {k : Counts} {s : List ℕ} {t : m.Tree} {rest : List ℕ} (a : At k s t rest) where
  pub thing-read : read_thing k s ≡ got (front t) (trees_bytes (parts t) ++ rest)
  unfolding most_nesting
  thing-read =
      ap (read_thing k) (a.is ∙ ap (λ (z : List ℕ). z ++ rest) (bytes_parted t) ∙ append_assoc (front_bytes t) (trees_bytes (parts t)) rest)
      ∙ front_read k a.declared t (trees_bytes (parts t) ++ rest) a.fits a.shallow a.short

  pub parts_at : AllAt k (trees_bytes (parts t) ++ rest) (parts t) rest
  parts_at = record {
    declared = a.declared;
    is = refl;
    fits = parts-fit k.symbols k.names k.scopes t a.fits;
    shallow = parts_nested t most_nesting a.shallow;
    short = omega (arith, a.short, ap length (bytes_parted t), length-append (front_bytes t) (trees_bytes (parts t)));
  }

-- ---- of several, the first and the others

module _ {k : Counts} {s : List ℕ} {t : m.Tree} {l : Trees} {rest : List ℕ} (a : AllAt k s (tcons t l) rest) where
  pub first-at : At k s t (trees_bytes l ++ rest)
  unfolding trees_bytes tnestings
  first-at = record {
    declared = a.declared;
    is = a.is ∙ append_assoc (tree_bytes t) (trees_bytes l) rest;
    fits = a.fits.0;
    shallow = omega (arith, a.shallow);
    short = left_le most_image (tree_bytes t) (trees_bytes l) a.short;
  }

  pub others-at : AllAt k (trees_bytes l ++ rest) l rest
  unfolding trees_bytes tnestings
  others-at = record {
    declared = a.declared;
    is = refl;
    fits = a.fits.1;
    shallow = omega (arith, a.shallow);
    short = right_le most_image (tree_bytes t) (trees_bytes l) a.short;
  }
