-- What is read from text is a well-formed image: the other jobs read it as it is.
use mathlib.Core.Path.{◌≡◌, refl, sym, ◌∙◌, subst}
use Prim.Native.Nat.{ℕ, ◌+◌, ◌-◌, ◌≤◌, ◌<◌, zero-le, suc-le-suc}
use native.Mathlib.Nat.{le_refl}
use native.Mathlib.Omega.{arith}
use mathlib.Core.Bool.{Bool, true, false, not, ◌&&◌, false≢true}
use mathlib.Core.List.{List, [], ◌∷◌, ◌++◌}
use lib.Dec.{eqb, leb}
use lib.ListN.{length}
use Rattle.model.specs.Choice.{when◌then◌else◌}
use Rattle.model.specs.Limits.{most_scopes, most_names, core_names, most_nesting, most_word_length, most_bindings, most_image, last_point, last_primitive, last_rung_word}
use Rattle.model.specs.Refusals.{over_limit}
use Rattle.model.specs.Objects.{no_sets, Stx, nesting}
use Rattle.model.specs.Reading.{got, good_word, among, core_words, symbols, Image, read_image, read_syntax}
use Rattle.model.specs.Writing.{syntax_bytes}
use Rattle.laws.specs.Ordered.{SetsIn}
use borrow.Author.Tests.{leb-true, ltb-true}
use Rattle.codec_laws.specs.WellFormed.{AtomFits, StxFits, StxsFit, WordsFit, SyntaxFits}
use Rattle.codec_laws.proofs.ImageLaws.{syntax_written_then_read}
use Rattle.requests.specs.Tokens.{digit, numeral, value, Leaf, word, number, point, prim, rung, Token, opening, closing, bad, one, place, rung_words, numbered, rung_token, token_of, tokens_of, tokens, cut}
use Rattle.requests.specs.FromText.{base, Made, made, refused, Obj, leaf, group, Objs, nothing, more, read_object, met, atom_of, syntax_of, syntaxes_of, leaf_fits, all_fit, image_of, within, limited, numbered_from, read_text}
use Rattle.laws.proofs.Tests.{and_both}
use Rattle.text_laws.proofs.Leaves.{LeafOk}
use Rattle.text_laws.proofs.TextTrip.{toks, toks_all, ObjOk, ObjsOk}
use Rattle.text_laws.proofs.Words.{LeafIn, Covered, place_back, covered_by_met}
use Rattle.text_laws.proofs.PrintRead.{anew, symbols-all}
use Rattle.text_laws.proofs.Exact.{refused≢made, made-same, read_exactly}

-- ---- a word token is a word of the image's bytes

abbrev TokenOk : Token → Type 0
TokenOk opening = Unit {0}
TokenOk closing = Unit {0}
TokenOk bad = Unit {0}
TokenOk (one (word w)) = good_word w ≡ true
TokenOk (one (number n)) = Unit {0}
TokenOk (one (point n)) = Unit {0}
TokenOk (one (prim n)) = Unit {0}
TokenOk (one (rung n)) = Unit {0}

abbrev pub TokensOk : List Token → Type 0
TokensOk [] = Unit {0}
TokensOk (t ∷ ts) = TokenOk t × TokensOk ts

either : (b : Bool) (t u : Token) → TokenOk t → TokenOk u → TokenOk (when b then t else u)
either true t u p q = p
either false t u p q = q

rung-ok : (w : List ℕ) → TokenOk (rung_token w)
unfolding rung_token
rung-ok w =
    either (among w rung_words) (one (rung (place w rung_words)))
    (when numeral w && leb 6 (value 0 w) && leb (value 0 w) 15 then one (rung (value 0 w)) else bad) tt
    (either (numeral w && leb 6 (value 0 w) && leb (value 0 w) 15) (one (rung (value 0 w))) bad tt tt)

point-ok : (w : List ℕ) → TokenOk (numbered point w)
unfolding numbered
point-ok w = either (numeral w) (one (point (value 0 w))) bad tt tt

prim-ok : (w : List ℕ) → TokenOk (numbered prim w)
unfolding numbered
prim-ok w = either (numeral w) (one (prim (value 0 w))) bad tt tt

number_ok : (w : List ℕ) → TokenOk (numbered number w)
unfolding numbered
number_ok w = either (numeral w) (one (number (value 0 w))) bad tt tt

token-ok : (w : List ℕ) → TokenOk (token_of w)
unfolding token_of
token-ok [] = tt
token-ok (b ∷ w) =
    go (eqb b 40) (eqb b 41) (eqb b 64) (eqb b 35) (eqb b 39) (digit b) (good_word (b ∷ w)) refl
  where
    go : (p q r s t d g : Bool) → good_word (b ∷ w) ≡ g
        → TokenOk (when p then opening else when q then closing else when r then numbered point w else when s then numbered prim w
        else when t then rung_token w else when d then numbered number (b ∷ w) else when g then one (word (b ∷ w)) else bad)
    go true q r s t d g e = tt
    go false true r s t d g e = tt
    go false false true s t d g e = point-ok w
    go false false false true t d g e = prim-ok w
    go false false false false true d g e = rung-ok w
    go false false false false false true g e = number_ok (b ∷ w)
    go false false false false false false true e = e
    go false false false false false false false e = tt

all-ok : (l : List (List ℕ)) → TokensOk (tokens_of l)
unfolding tokens_of
all-ok [] = tt
all-ok (w ∷ l) = (token-ok w, all-ok l)

pub tokens-ok : (text : List ℕ) → TokensOk (tokens text)
unfolding tokens
tokens-ok text = all-ok (cut [] text)

-- ---- the words met keep the limits of an image

some_bytes : (w : List ℕ) → good_word w ≡ true → 0 < length w
unfolding good_word
some_bytes [] e = absurd (false≢true e)
some_bytes (b ∷ w) e = suc-le-suc zero-le

words-fit : (ts : List Token) (seen : List (List ℕ)) → TokensOk ts → all_fit ts ≡ true → WordsFit seen (met seen ts)
unfolding met all_fit leaf_fits
words-fit [] seen k e = tt
words-fit (one (word w) ∷ ts) seen k e =
    let a = and_both (leb (length w) most_word_length) (all_fit ts) e in
    go (among w seen) refl (leb-true (length w) most_word_length a.0) (words-fit ts seen k.1 a.1) (words-fit ts (w ∷ seen) k.1 a.1)
  where
    good : (x y : Bool) → x ≡ true → y ≡ false → (x && not y) ≡ true
    good true false p q = refl
    good true true p q = absurd (false≢true (sym q))
    good false y p q = absurd (false≢true p)

    go : (t : Bool) → among w seen ≡ t → length w ≤ most_word_length → WordsFit seen (met seen ts) → WordsFit (w ∷ seen) (met (w ∷ seen) ts)
        → WordsFit seen (when t then met seen ts else w ∷ met (w ∷ seen) ts)
    go true p h f g = f
    go false p h f g = (some_bytes w k.0, h, good (good_word w) (among w seen) k.0 p, g)
words-fit (one (number n) ∷ ts) seen k e = words-fit ts seen k.1 (and_both (leaf_fits (number n)) (all_fit ts) e).1
words-fit (one (point n) ∷ ts) seen k e = words-fit ts seen k.1 (and_both (leaf_fits (point n)) (all_fit ts) e).1
words-fit (one (prim n) ∷ ts) seen k e = words-fit ts seen k.1 (and_both (leaf_fits (prim n)) (all_fit ts) e).1
words-fit (one (rung n) ∷ ts) seen k e = words-fit ts seen k.1 (and_both (leaf_fits (rung n)) (all_fit ts) e).1
words-fit (opening ∷ ts) seen k e = words-fit ts seen k.1 e
words-fit (closing ∷ ts) seen k e = words-fit ts seen k.1 e
words-fit (bad ∷ ts) seen k e = words-fit ts seen k.1 e

-- ---- and so does the object

no-scopes : SetsIn 0 no_sets
unfolding no_sets
no-scopes = (omega arith, omega arith, omega arith)

pub leaf-ok : (l : Leaf) → TokenOk (one l) → leaf_fits l ≡ true → LeafOk l
unfolding leaf_fits
leaf-ok (word w) k e = (k, leb-true (length w) most_word_length e)
leaf-ok (number n) k e = ltb-true n 4294967296 e
leaf-ok (point n) k e = leb-true n last_point e
leaf-ok (prim n) k e = leb-true n last_primitive e
leaf-ok (rung n) k e = leb-true n last_rung_word e

mutual
  unfolding toks all_fit

  pub object-ok : (x : Obj) (ts : List Token) → TokensOk (toks x ts) → all_fit (toks x ts) ≡ true → ObjOk x × TokensOk ts × (all_fit ts ≡ true)
  object-ok (leaf l) ts k e =
      let a = and_both (leaf_fits l) (all_fit ts) e in
      (leaf-ok l k.0 a.0, k.1, a.1)
  object-ok (group l) ts k e =
      let a = objects-ok l (closing ∷ ts) k.1 e in
      (a.0, a.1.1, a.2)

  objects-ok : (l : Objs) (ts : List Token) → TokensOk (toks_all l ts) → all_fit (toks_all l ts) ≡ true → ObjsOk l × TokensOk ts × (all_fit ts ≡ true)
  objects-ok nothing ts k e = (tt, k, e)
  objects-ok (more x l) ts k e =
      let a = object-ok x (toks_all l ts) k e in
      let b = objects-ok l ts a.1 a.2 in
      ((a.0, b.0), b.1, b.2)

atom-fits : (all : List (List ℕ)) (l : Leaf) → LeafOk l → LeafIn all l → AtomFits (length all) (atom_of all l)
unfolding atom_of
atom-fits all (word w) k i = (place_back w all i).1
atom-fits all (number n) k i = k
atom-fits all (point n) k i = k
atom-fits all (prim n) k i = k
atom-fits all (rung n) k i = k

mutual
  unfolding toks syntax_of

  syntax-fits : (all : List (List ℕ)) (x : Obj) → ObjOk x → (ts : List Token) → Covered all (toks x ts) → StxFits (length all) 0 (syntax_of all x) × Covered all ts
  syntax-fits all (leaf l) k ts c = ((no-scopes, atom-fits all l k c.0), c.1)
  syntax-fits all (group l) k ts c =
      let a = syntaxes_fit all l k (closing ∷ ts) c in
      ((no-scopes, a.0), a.1)

  syntaxes_fit : (all : List (List ℕ)) (l : Objs) → ObjsOk l → (ts : List Token) → Covered all (toks_all l ts) → StxsFit (length all) 0 (syntaxes_of all l) × Covered all ts
  syntaxes_fit all nothing k ts c = (tt, c)
  syntaxes_fit all (more x l) k ts c =
      let a = syntax-fits all x k.0 (toks_all l ts) c in
      let b = syntaxes_fit all l k.1 ts a.1 in
      ((a.0, b.0), b.1)

-- ---- what a text that is read says

pub record ReadFrom (text : List ℕ) (i : Image Stx) : Type 0 where
  pub object : Obj
  pub its_tokens : tokens text ≡ toks object []
  pub its_image : i ≡ anew object
  pub its_leaves : ObjOk object
  pub words-kept : WordsFit core_words (met core_words (toks object []))
  pub few_words : length (met core_words (toks object [])) ≤ 1020
  pub not_deep : nesting (syntax_of (core_words ++ met core_words (toks object [])) object) ≤ 64

limited-made : (ts : List Token) (j i : Image Stx) → limited ts j ≡ made i
    → (i ≡ j) × (all_fit ts ≡ true) × (length j.head.words ≤ 1020) × (nesting j.root ≤ 64)
unfolding limited within most_names core_names most_nesting
limited-made ts j i e = go (within ts j) refl e
  where
    go : (t : Bool) → within ts j ≡ t → (when t then made j else refused (base over_limit)) ≡ made i
        → (i ≡ j) × (all_fit ts ≡ true) × (length j.head.words ≤ 1020) × (nesting j.root ≤ 64)
    go false p q = absurd (refused≢made (base over_limit) i q)
    go true p q =
        let a = and_both (all_fit ts && leb (length j.head.words) 1020) (leb (nesting j.root) 64) p in
        let b = and_both (all_fit ts) (leb (length j.head.words) 1020) a.0 in
        (sym (made-same j i q), b.0, leb-true _ 1020 b.1, leb-true _ 64 a.1)

read_of : (text : List ℕ) (i : Image Stx) (ts : List Token) (x : Obj) → TokensOk ts → ts ≡ toks x [] → limited ts (image_of (met core_words ts) x) ≡ made i
    → tokens text ≡ ts → ReadFrom text i
unfolding anew image_of
read_of text i ts x k p q r =
    let q' = subst (λ (z : List Token). limited z (image_of (met core_words z) x) ≡ made i) p q in
    let k' = subst TokensOk p k in
    let l = limited-made (toks x []) (image_of (met core_words (toks x [])) x) i q' in
    record {
      object = x;
      its_tokens = r ∙ p;
      its_image = l.0;
      its_leaves = (object-ok x [] k' l.1).0;
      words-kept = words-fit (toks x []) core_words k' l.1;
      few_words = l.2;
      not_deep = l.3;
    }

pub read-from : (text : List ℕ) (i : Image Stx) → read_text text ≡ made i → ReadFrom text i
unfolding read_text numbered_from
read-from text i e = go (read_object (tokens text)) refl e
  where
    go : (r : Made Obj) → read_object (tokens text) ≡ r → numbered_from (tokens text) r ≡ made i → ReadFrom text i
    go (refused c) p q = absurd (refused≢made c i q)
    go (made x) p q = read_of text i (tokens text) x (tokens-ok text) (read_exactly (tokens text) x p) q refl

-- ---- it is well-formed

anew_fits : (x : Obj) → ObjOk x → WordsFit core_words (met core_words (toks x [])) → length (met core_words (toks x [])) ≤ 1020
    → nesting (syntax_of (core_words ++ met core_words (toks x [])) x) ≤ 64
    → length (syntax_bytes (anew x).head (anew x).binds (anew x).root) ≤ most_image → SyntaxFits (anew x).head (anew x).binds (anew x).root
unfolding anew image_of most_names most_nesting most_scopes most_bindings symbols core_names
anew_fits x k w few deep short =
    record {
      head-fits = record { words-fit = w; names-from = le_refl _; names-to = omega arith; scopes-to = omega arith };
      binds-fit = tt;
      ascending = tt;
      few = omega arith;
      root-fits = subst (λ (n : ℕ). StxFits n 0 (syntax_of all x)) (sym (symbols-all (anew x).head))
          (syntax-fits all x k [] (covered_by_met core_words (toks x []))).0;
      shallow = deep;
      short = short;
    }
  where
    all : List (List ℕ)
    all = core_words ++ met core_words (toks x [])

-- what is read from text keeps every limit of an image that is not too long
pub text_read_keeps_limits : (text : List ℕ) (i : Image Stx) → read_text text ≡ made i
    → length (syntax_bytes i.head i.binds i.root) ≤ most_image → SyntaxFits i.head i.binds i.root
text_read_keeps_limits text i e short =
    let r = read-from text i e in
    subst (λ (z : Image Stx). SyntaxFits z.head z.binds z.root) (sym r.its_image)
    (anew_fits r.object r.its_leaves r.words-kept r.few_words r.not_deep
    (subst (λ (z : Image Stx). length (syntax_bytes z.head z.binds z.root) ≤ most_image) r.its_image short))

-- so the other jobs read the image as what was read
pub text_read_accepted : (text : List ℕ) (i : Image Stx) → read_text text ≡ made i
    → length (syntax_bytes i.head i.binds i.root) ≤ most_image
    → read_image read_syntax (syntax_bytes i.head i.binds i.root) ≡ got i []
text_read_accepted text i e short = syntax_written_then_read i.head i.binds i.root (text_read_keeps_limits text i e short)
