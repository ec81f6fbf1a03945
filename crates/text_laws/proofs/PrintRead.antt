-- Document 02, T-05: what the printer writes, the reader takes back to the same objects without their scopes, symbols compared by
-- spelling.
use mathlib.Core.Path.{◌≡◌, refl, sym, ap, ap₂, ◌∙◌, subst}
use Prim.Native.Nat.{ℕ, zero, suc, ◌+◌, ◌-◌, max, ◌≤◌, ◌<◌}
use native.Mathlib.Nat.{le_trans}
use native.Mathlib.Omega.{arith}
use mathlib.Core.Bool.{not}
use mathlib.Core.List.{List, [], ◌∷◌, ◌++◌}
use lib.ListN.{length, get_or}
use Rattle.model.specs.Limits.{most_names, core_names, most_nesting, most_word_length}
use Rattle.model.specs.Objects.{Atom, symbol, Stx, atom, list, Stxs, nil, cons, nesting, nestings}
use Rattle.model.specs.Objects as o
use Rattle.model.specs.Reading.{good_word, among, core_words, Head, symbols, Image}
use borrow.Author.Tests.{le-leb}
use Rattle.codec_laws.specs.WellFormed.{AtomFits, StxFits, StxsFit, WordsFit, SyntaxFits}
use Rattle.requests.specs.Tokens.{Leaf, word, number, point, prim, rung, Token, closing, tokens}
use Rattle.requests.specs.FromText.{made, Obj, leaf, group, Objs, nothing, more, read_object, met, atom_of, syntax_of, syntaxes_of, image_of, within, limited, numbered_from, read_text}
use Rattle.requests.specs.ToText.{leaf_of, spelled, spelled_all, object_text, written, print_text}
use Rattle.laws.proofs.Tests.{and_both}
use Rattle.text_laws.proofs.Leaves.{LeafOk}
use Rattle.text_laws.proofs.TextTrip.{toks, toks_all, ObjOk, ObjsOk, ends-nil, object-tokens, object-read, object-fits}
use Rattle.text_laws.proofs.Words.{LeafIn, Covered, place_back, at-among, covered_by_met, met_no_more}

-- ---- numbering and spelling

leaf_back : (all : List (List ℕ)) (l : Leaf) → LeafIn all l → leaf_of all (atom_of all l) ≡ l
unfolding leaf_of atom_of
leaf_back all (word w) h = ap word (place_back w all h).0
leaf_back all (number n) h = refl
leaf_back all (point n) h = refl
leaf_back all (prim n) h = refl
leaf_back all (rung n) h = refl

mutual
  unfolding toks syntax_of spelled

  -- numbered by a list that has all its words, an object is spelled as it was
  pub spelled_back : (all : List (List ℕ)) (x : Obj) (ts : List Token) → Covered all (toks x ts) → (spelled all (syntax_of all x) ≡ x) × Covered all ts
  spelled_back all (leaf l) ts c = (ap leaf (leaf_back all l c.0), c.1)
  spelled_back all (group l) ts c =
      let a = spelled-parts all l (closing ∷ ts) c in
      (ap group a.0, a.1)

  spelled-parts : (all : List (List ℕ)) (l : Objs) (ts : List Token) → Covered all (toks_all l ts)
      → (spelled_all all (syntaxes_of all l) ≡ l) × Covered all ts
  spelled-parts all nothing ts c = (refl, c)
  spelled-parts all (more x l) ts c =
      let a = spelled_back all x (toks_all l ts) c in
      let b = spelled-parts all l ts a.1 in
      (ap₂ more a.0 b.0, b.1)

mutual
  unfolding syntax_of spelled nesting

  same-nesting : (a b : List (List ℕ)) (r : Stx) → nesting (syntax_of a (spelled b r)) ≡ nesting r
  same-nesting a b (atom c x) = refl
  same-nesting a b (list c l) = ap suc (same-nestings a b l)

  same-nestings : (a b : List (List ℕ)) (l : Stxs) → nestings (syntaxes_of a (spelled_all b l)) ≡ nestings l
  same-nestings a b nil = refl
  same-nestings a b (cons x l) = ap₂ max (same-nesting a b x) (same-nestings a b l)

-- ---- what keeps the limits has a text

abbrev GoodWords : List (List ℕ) → Type 0
GoodWords [] = Unit {0}
GoodWords (w ∷ l) = LeafOk (word w) × GoodWords l

good-at : (l : List (List ℕ)) → GoodWords l → (x : ℕ) → x < length l → LeafOk (word (get_or l x []))
good-at [] g x h = absurd (none x h)
  where
    none : (x : ℕ) → x < 0 → ⊥
    none x h = omega arith
good-at (w ∷ l) g zero h = g.0
good-at (w ∷ l) g (suc x) h = good-at l g.1 x (less h)
  where
    less : suc x < suc (length l) → x < length l
    less k = omega arith

good-words : (seen ws : List (List ℕ)) → WordsFit seen ws → GoodWords ws
good-words seen [] f = tt
good-words seen (w ∷ l) f = (((and_both (good_word w) (not (among w seen)) f.2).0, f.1), good-words (w ∷ seen) l f.3)

all-good : (ws : List (List ℕ)) → WordsFit core_words ws → GoodWords (core_words ++ ws)
unfolding core_words good_word most_word_length
all-good ws f =
    ((refl, omega arith), ((refl, omega arith), ((refl, omega arith), ((refl, omega arith), good-words core_words ws f))))

atom-ok : (all : List (List ℕ)) → GoodWords all → (a : Atom) → AtomFits (length all) a → LeafOk (leaf_of all a)
unfolding leaf_of
atom-ok all g (symbol x) f = good-at all g x f
atom-ok all g (o.number n) f = f
atom-ok all g (o.point n) f = f
atom-ok all g (o.prim n) f = f
atom-ok all g (o.rung n) f = f

mutual
  unfolding spelled

  spelled-ok : (all : List (List ℕ)) → GoodWords all → (n : ℕ) (r : Stx) → StxFits (length all) n r → ObjOk (spelled all r)
  spelled-ok all g n (atom c a) f = atom-ok all g a f.1
  spelled-ok all g n (list c l) f = spelled_oks all g n l f.1

  spelled_oks : (all : List (List ℕ)) → GoodWords all → (n : ℕ) (l : Stxs) → StxsFit (length all) n l → ObjsOk (spelled_all all l)
  spelled_oks all g n nil f = tt
  spelled_oks all g n (cons x l) f = (spelled-ok all g n x f.0, spelled_oks all g n l f.1)

atom_in : (all : List (List ℕ)) (a : Atom) → AtomFits (length all) a → LeafIn all (leaf_of all a)
unfolding leaf_of
atom_in all (symbol x) f = at-among all x f
atom_in all (o.number n) f = tt
atom_in all (o.point n) f = tt
atom_in all (o.prim n) f = tt
atom_in all (o.rung n) f = tt

mutual
  unfolding spelled toks

  spelled_in : (all : List (List ℕ)) (n : ℕ) (r : Stx) → StxFits (length all) n r → (ts : List Token) → Covered all ts → Covered all (toks (spelled all r) ts)
  spelled_in all n (atom c a) f ts k = (atom_in all a f.1, k)
  spelled_in all n (list c l) f ts k = spelled_ins all n l f.1 (closing ∷ ts) k

  spelled_ins : (all : List (List ℕ)) (n : ℕ) (l : Stxs) → StxsFit (length all) n l → (ts : List Token) → Covered all ts → Covered all (toks_all (spelled_all all l) ts)
  spelled_ins all n nil f ts k = k
  spelled_ins all n (cons x l) f ts k = spelled_in all n x f.0 (toks_all (spelled_all all l) ts) (spelled_ins all n l f.1 ts k)

pub symbols-all : (h : Head) → symbols h ≡ length (core_words ++ h.words)
unfolding symbols core_names core_words
symbols-all h = omega arith

counted : (h : Head) → symbols h ≡ 4 + length h.words
unfolding symbols core_names
counted h = refl

-- ---- print, then read

-- the image that an object is read to: its words as first met, no scopes, bindings or made names
unfoldable pub anew : Obj → Image Stx
unfolding image_of met
anew x = image_of (met core_words (toks x [])) x

pub object_back : (x : Obj) → ObjOk x → length (met core_words (toks x [])) ≤ 1020 → nesting (syntax_of (core_words ++ met core_words (toks x [])) x) ≤ 64
    → read_text (object_text x []) ≡ made (anew x)
unfolding read_text tokens numbered_from limited within anew image_of
object_back x k few shallow =
    let e : tokens (object_text x []) ≡ toks x [] = object-tokens x k [] ends-nil in
    ap (λ (z : List Token). numbered_from z (read_object z)) e
    ∙ rw (object-read x, object-fits x k [] refl, le-leb _ 1020 few, le-leb _ 64 shallow)

-- what the printer writes of an image, the reader takes back, with no hypothesis but that the image keeps its own limits
pub print_then_read : (i : Image Stx) → SyntaxFits i.head i.binds i.root
    → (read_text (print_text i) ≡ made (anew (written i))) × (written (anew (written i)) ≡ written i)
unfolding print_text written anew image_of most_names most_nesting
print_then_read i f =
    (object_back x ok few_words shallow, (spelled_back (core_words ++ met core_words (toks x [])) x [] (covered_by_met core_words (toks x []))).0)
  where
    all : List (List ℕ)
    all = core_words ++ i.head.words

    x : Obj
    x = spelled all i.root

    fits : StxFits (length all) i.head.scopes i.root
    fits = subst (λ (k : ℕ). StxFits k i.head.scopes i.root) (symbols-all i.head) f.root-fits

    ok : ObjOk x
    ok = spelled-ok all (all-good i.head.words f.head-fits.words-fit) i.head.scopes i.root fits

    few : (n s w : ℕ) → s ≡ 4 + w → s ≤ n → n ≤ 1024 → w ≤ 1020
    few n s w a b c = omega arith

    few_words : length (met core_words (toks x [])) ≤ 1020
    few_words =
        le_trans (met_no_more core_words i.head.words (toks x []) (spelled_in all i.head.scopes i.root fits [] tt))
        (few i.head.names (symbols i.head) (length i.head.words) (counted i.head) f.head-fits.names-from f.head-fits.names-to)

    shallow : nesting (syntax_of (core_words ++ met core_words (toks x [])) x) ≤ 64
    shallow = subst (λ (n : ℕ). n ≤ 64) (sym (same-nesting (core_words ++ met core_words (toks x [])) all i.root)) f.shallow
