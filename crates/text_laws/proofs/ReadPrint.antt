-- Document 02, T-05: read, then printed, a text is itself with single spaces and no comments; and that is read to the same image.
use mathlib.Core.Path.{◌≡◌, refl, sym, ap, ap₂, ◌∙◌, subst}
use mathlib.Core.Logic.{◌≢◌, ◌⊎◌, inl, inr}
use Prim.Native.Nat.{ℕ, ◌<◌}
use native.Mathlib.Omega.{arith}
use mathlib.Core.Bool.{Bool, true, false, ◌&&◌, ◌||◌, false≢true}
use mathlib.Core.List.{List, [], ◌∷◌, ◌++◌}
use lib.Dec.{eqb, leb}
use lib.ListN.{length}
use Rattle.model.specs.Choice.{when◌then◌else◌}
use Rattle.model.specs.Limits.{last_point, last_primitive}
use Rattle.model.specs.Objects.{Stx}
use Rattle.model.specs.Reading.{good_word, among, same_bytes, core_words, Image}
use borrow.Author.Tests.{leb-true, ltb-true, lt-ltb, le-ltb, eqb-true}
use Rattle.requests.specs.Tokens.{space, line_end, paren, ended, cut, comment, digit, numeral, value, word, number, point, prim, rung, Token, opening, closing, bad, one, rung_words, place, numbered, rung_token, token_of, tokens_of, tokens}
use Rattle.requests.specs.FromText.{made, Obj, leaf, group, Objs, nothing, more, met, leaf_fits, read_text}
use Rattle.requests.specs.ToText.{rung_text, leaf_text, object_text, parts_text, further_text, written, print_text}
use Rattle.text_laws.specs.Single.{space_if, spaced, single}
use Rattle.text_laws.proofs.Decimals.{numeral_back}
use Rattle.text_laws.proofs.Leaves.{PlainByte, Plain, leaf-fits, leaf-plain}
use Rattle.text_laws.proofs.TextTrip.{toks, toks_all, ObjOk, ObjsOk}
use Rattle.text_laws.proofs.Words.{place_back, covered_by_met}
use Rattle.text_laws.proofs.PrintRead.{anew, object_back, spelled_back}
use Rattle.text_laws.proofs.ReadFits.{read-from}

-- ---- every piece is a parenthesis or has only bytes that end none

abbrev pub PieceOk : List ℕ → Type 0
PieceOk w = (w ≡ 40 ∷ []) ⊎ (w ≡ 41 ∷ []) ⊎ Plain w

abbrev pub PiecesOk : List (List ℕ) → Type 0
PiecesOk [] = Unit {0}
PiecesOk (w ∷ l) = PieceOk w × PiecesOk l

ended-ok : (w : List ℕ) (l : List (List ℕ)) → Plain w → PiecesOk l → PiecesOk (ended w l)
unfolding ended
ended-ok [] l p k = k
ended-ok (b ∷ w) l p k = (inr (inr p), k)

plain_more : (w : List ℕ) (b : ℕ) → Plain w → PlainByte b → Plain (w ++ (b ∷ []))
plain_more [] b p q = (q, tt)
plain_more (c ∷ w) b p q = (p.0, plain_more w b p.1 q)

paren-piece : (b : ℕ) → paren b ≡ true → PieceOk (b ∷ [])
unfolding paren
paren-piece b e = go (eqb b 40) refl e
  where
    go : (t : Bool) → eqb b 40 ≡ t → (t || eqb b 41) ≡ true → PieceOk (b ∷ [])
    go true p q = inl (ap (λ (z : ℕ). z ∷ []) (eqb-true b 40 p))
    go false p q = inr (inl (ap (λ (z : ℕ). z ∷ []) (eqb-true b 41 q)))

either-ok : (t : Bool) (l k : List (List ℕ)) → PiecesOk l → PiecesOk k → PiecesOk (when t then l else k)
either-ok true l k p q = p
either-ok false l k p q = q

byte-ok : (w : List ℕ) (b : ℕ) (s : List ℕ) → Plain w → (x y z : Bool) → space b ≡ x → paren b ≡ y → eqb b 59 ≡ z → PiecesOk (cut [] s) → PiecesOk (comment s)
    → (PlainByte b → PiecesOk (cut (w ++ (b ∷ [])) s))
    → PiecesOk (when x then ended w (cut [] s) else when y then ended w ((b ∷ []) ∷ cut [] s) else when z then ended w (comment s) else cut (w ++ (b ∷ [])) s)
byte-ok w b s p true y z e f g i j k = ended-ok w (cut [] s) p i
byte-ok w b s p false true z e f g i j k = ended-ok w ((b ∷ []) ∷ cut [] s) p (paren-piece b f, i)
byte-ok w b s p false false true e f g i j k = ended-ok w (comment s) p j
byte-ok w b s p false false false e f g i j k = k (e, f, g)

mutual
  unfolding cut

  pub cut_ok : (w s : List ℕ) → Plain w → PiecesOk (cut w s)
  cut_ok w [] p = ended-ok w [] p tt
  cut_ok w (b ∷ s) p =
      byte-ok w b s p (space b) (paren b) (eqb b 59) refl refl refl (cut_ok [] s tt) (comment-ok s)
      (λ q. cut_ok (w ++ (b ∷ [])) s (plain_more w b p q))

  comment-ok : (s : List ℕ) → PiecesOk (comment s)
  comment-ok [] = tt
  comment-ok (b ∷ s) = either-ok (line_end b) (cut [] s) (comment s) (cut_ok [] s tt) (comment-ok s)

-- ---- a piece is the text of its token

unfoldable pub token_text : Token → List ℕ
unfolding leaf_text
token_text opening = 40 ∷ []
token_text closing = 41 ∷ []
token_text bad = []
token_text (one l) = leaf_text l

-- a token that is not bad and keeps the limits
abbrev Fits : Token → Type 0
Fits opening = Unit {0}
Fits closing = Unit {0}
Fits bad = ⊥
Fits (one l) = leaf_fits l ≡ true

abbrev AllFits : List Token → Type 0
AllFits [] = Unit {0}
AllFits (t ∷ ts) = Fits t × AllFits ts

point-text : (w : List ℕ) → Fits (numbered point w) → token_text (numbered point w) ≡ 64 ∷ w
unfolding numbered token_text leaf_text leaf_fits last_point
point-text w f = go (numeral w) refl f
  where
    go : (t : Bool) → numeral w ≡ t → Fits (when t then one (point (value 0 w)) else bad) → token_text (when t then one (point (value 0 w)) else bad) ≡ 64 ∷ w
    go false e f = absurd f
    go true e f = ap (λ (z : List ℕ). 64 ∷ z) (numeral_back w e (omega (arith, leb-true (value 0 w) last_point f)))

prim-text : (w : List ℕ) → Fits (numbered prim w) → token_text (numbered prim w) ≡ 35 ∷ w
unfolding numbered token_text leaf_text leaf_fits last_primitive
prim-text w f = go (numeral w) refl f
  where
    go : (t : Bool) → numeral w ≡ t → Fits (when t then one (prim (value 0 w)) else bad) → token_text (when t then one (prim (value 0 w)) else bad) ≡ 35 ∷ w
    go false e f = absurd f
    go true e f = ap (λ (z : List ℕ). 35 ∷ z) (numeral_back w e (omega (arith, leb-true (value 0 w) last_primitive f)))

number-text : (w : List ℕ) → Fits (numbered number w) → token_text (numbered number w) ≡ w
unfolding numbered token_text leaf_text leaf_fits
number-text w f = go (numeral w) refl f
  where
    go : (t : Bool) → numeral w ≡ t → Fits (when t then one (number (value 0 w)) else bad) → token_text (when t then one (number (value 0 w)) else bad) ≡ w
    go false e f = absurd f
    go true e f = numeral_back w e (ltb-true (value 0 w) 4294967296 f)

six : length rung_words ≡ 6
unfolding rung_words
six = refl

rung-text : (w : List ℕ) → Fits (rung_token w) → token_text (rung_token w) ≡ 39 ∷ w
unfolding rung_token token_text leaf_text rung_text
rung-text w f = go (among w rung_words) (numeral w) (leb 6 (value 0 w)) (leb (value 0 w) 15) refl refl refl refl f
  where
    go : (s t x y : Bool) → among w rung_words ≡ s → numeral w ≡ t → leb 6 (value 0 w) ≡ x → leb (value 0 w) 15 ≡ y
        → Fits (when s then one (rung (place w rung_words)) else when t && x && y then one (rung (value 0 w)) else bad)
        → token_text (when s then one (rung (place w rung_words)) else when t && x && y then one (rung (value 0 w)) else bad) ≡ 39 ∷ w
    go true t x y e f g h k =
        let r = place_back w rung_words e in
        rw (lt-ltb (place w rung_words) 6 (subst (λ (n : ℕ). place w rung_words < n) six r.1))
        (ap (λ (z : List ℕ). 39 ∷ z) r.0)
    go false true true true e f g h k =
        rw (le-ltb (value 0 w) 6 (leb-true 6 (value 0 w) g))
        (ap (λ (z : List ℕ). 39 ∷ z) (numeral_back w f (omega (arith, leb-true (value 0 w) 15 h))))
    go false true true false e f g h k = absurd k
    go false true false y e f g h k = absurd k
    go false false x y e f g h k = absurd k

not-paren : (b : ℕ) → paren b ≡ false → (eqb b 40 ≡ false) × (eqb b 41 ≡ false)
unfolding paren
not-paren b e = go (eqb b 40) (eqb b 41) e
  where
    go : (x y : Bool) → (x || y) ≡ false → (x ≡ false) × (y ≡ false)
    go true y e = absurd (false≢true (sym e))
    go false y e = (refl, e)

plain-text : (w : List ℕ) → Plain w → Fits (token_of w) → token_text (token_of w) ≡ w
unfolding token_of token_text leaf_text
plain-text [] p f = absurd f
plain-text (b ∷ w) p f =
    let n = not-paren b p.0.1 in
    go (eqb b 40) (eqb b 41) (eqb b 64) (eqb b 35) (eqb b 39) (digit b) (good_word (b ∷ w)) n.0 n.1 refl refl refl f
  where
    go : (i j r s t d g : Bool) → i ≡ false → j ≡ false → eqb b 64 ≡ r → eqb b 35 ≡ s → eqb b 39 ≡ t
        → Fits (when i then opening else when j then closing else when r then numbered point w else when s then numbered prim w
        else when t then rung_token w else when d then numbered number (b ∷ w) else when g then one (word (b ∷ w)) else bad)
        → token_text (when i then opening else when j then closing else when r then numbered point w else when s then numbered prim w
        else when t then rung_token w else when d then numbered number (b ∷ w) else when g then one (word (b ∷ w)) else bad) ≡ b ∷ w
    go true j r s t d g e₁ e₂ e₃ e₄ e₅ f = absurd (false≢true (sym e₁))
    go false true r s t d g e₁ e₂ e₃ e₄ e₅ f = absurd (false≢true (sym e₂))
    go false false true s t d g e₁ e₂ e₃ e₄ e₅ f = point-text w f ∙ ap (λ (z : ℕ). z ∷ w) (sym (eqb-true b 64 e₃))
    go false false false true t d g e₁ e₂ e₃ e₄ e₅ f = prim-text w f ∙ ap (λ (z : ℕ). z ∷ w) (sym (eqb-true b 35 e₄))
    go false false false false true d g e₁ e₂ e₃ e₄ e₅ f = rung-text w f ∙ ap (λ (z : ℕ). z ∷ w) (sym (eqb-true b 39 e₅))
    go false false false false false true g e₁ e₂ e₃ e₄ e₅ f = number-text (b ∷ w) f
    go false false false false false false true e₁ e₂ e₃ e₄ e₅ f = refl
    go false false false false false false false e₁ e₂ e₃ e₄ e₅ f = absurd f

open_text : token_text (token_of (40 ∷ [])) ≡ 40 ∷ []
unfolding token_of token_text
open_text = refl

close_text : token_text (token_of (41 ∷ [])) ≡ 41 ∷ []
unfolding token_of token_text
close_text = refl

piece-text : (w : List ℕ) → PieceOk w → Fits (token_of w) → token_text (token_of w) ≡ w
piece-text w (inl e) f = ap (λ (z : List ℕ). token_text (token_of z)) e ∙ open_text ∙ sym e
piece-text w (inr (inl e)) f = ap (λ (z : List ℕ). token_text (token_of z)) e ∙ close_text ∙ sym e
piece-text w (inr (inr p)) f = plain-text w p f

unfoldable pub texts : List Token → List (List ℕ)
texts [] = []
texts (t ∷ ts) = token_text t ∷ texts ts

pieces-text : (l : List (List ℕ)) → PiecesOk l → AllFits (tokens_of l) → texts (tokens_of l) ≡ l
unfolding tokens_of texts
pieces-text [] k f = refl
pieces-text (w ∷ l) k f = ap₂ (λ (v : List ℕ) (m : List (List ℕ)). v ∷ m) (piece-text w k.0 f.0) (pieces-text l k.1 f.1)

-- ---- the pieces of an object with single spaces are its text

mutual
  unfolding toks

  object-all : (x : Obj) → ObjOk x → (ts : List Token) → AllFits ts → AllFits (toks x ts)
  object-all (leaf l) k ts f = (leaf-fits l k, f)
  object-all (group l) k ts f = (tt, objects-all l k (closing ∷ ts) (tt, f))

  objects-all : (l : Objs) → ObjsOk l → (ts : List Token) → AllFits ts → AllFits (toks_all l ts)
  objects-all nothing k ts f = f
  objects-all (more x l) k ts f = object-all x k.0 (toks_all l ts) (objects-all l k.1 ts f)

no-paren : (w : List ℕ) → Plain w → (same_bytes w (40 ∷ []) ≡ false) × (same_bytes w (41 ∷ []) ≡ false)
unfolding same_bytes
no-paren [] p = (refl, refl)
no-paren (b ∷ w) p =
    let n = not-paren b p.0.1 in
    (rw n.0, rw n.1)

piece-spaced : (due : Bool) (w : List ℕ) (l : List (List ℕ)) → Plain w → spaced due (w ∷ l) ≡ space_if due (w ++ spaced true l)
unfolding spaced
piece-spaced true w l p =
    let n = no-paren w p in
    rw (n.1, n.0)
piece-spaced false w l p =
    let n = no-paren w p in
    rw n.0

open_spaced : (due : Bool) (l : List (List ℕ)) → spaced due ((40 ∷ []) ∷ l) ≡ space_if due (40 ∷ spaced false l)
unfolding spaced
open_spaced true l = refl
open_spaced false l = refl

close_spaced : (due : Bool) (l : List (List ℕ)) → spaced due ((41 ∷ []) ∷ l) ≡ 41 ∷ spaced true l
unfolding spaced
close_spaced true l = refl
close_spaced false l = refl

none-due : (s : List ℕ) → space_if false s ≡ s
unfolding space_if
none-due s = refl

nothing-more : spaced true (texts []) ≡ []
unfolding spaced texts
nothing-more = refl

further-is : (x : Obj) (l : Objs) (r : List ℕ) → space_if true (object_text x (further_text l r)) ≡ further_text (more x l) r
unfolding space_if further_text
further-is x l r = refl

mutual
  unfolding toks texts token_text object_text

  object-spaced : (x : Obj) → ObjOk x → (due : Bool) (ts : List Token) → spaced due (texts (toks x ts)) ≡ space_if due (object_text x (spaced true (texts ts)))
  object-spaced (leaf l) k due ts = piece-spaced due (leaf_text l) (texts ts) (leaf-plain l k)
  object-spaced (group l) k due ts =
      open_spaced due (texts (toks_all l (closing ∷ ts))) ∙ ap (λ (z : List ℕ). space_if due (40 ∷ z)) (parts-spaced l k ts)

  parts-spaced : (l : Objs) → ObjsOk l → (ts : List Token) → spaced false (texts (toks_all l (closing ∷ ts))) ≡ parts_text l (41 ∷ spaced true (texts ts))
  parts-spaced nothing k ts = close_spaced false (texts ts)
  parts-spaced (more x l) k ts =
      object-spaced x k.0 false (toks_all l (closing ∷ ts)) ∙ none-due (object_text x (spaced true (texts (toks_all l (closing ∷ ts)))))
      ∙ ap (object_text x) (further-spaced l k.1 ts)

  further-spaced : (l : Objs) → ObjsOk l → (ts : List Token) → spaced true (texts (toks_all l (closing ∷ ts))) ≡ further_text l (41 ∷ spaced true (texts ts))
  further-spaced nothing k ts = close_spaced true (texts ts)
  further-spaced (more x l) k ts =
      object-spaced x k.0 true (toks_all l (closing ∷ ts)) ∙ ap (λ (z : List ℕ). space_if true (object_text x z)) (further-spaced l k.1 ts)
      ∙ further-is x l (41 ∷ spaced true (texts ts))

pub whole-spaced : (x : Obj) → ObjOk x → spaced false (texts (toks x [])) ≡ object_text x []
whole-spaced x k = object-spaced x k false [] ∙ none-due (object_text x (spaced true (texts []))) ∙ ap (object_text x) nothing-more

-- ---- read, then print, then read

pub printed : (x : Obj) → print_text (anew x) ≡ object_text x []
unfolding print_text written anew
printed x =
    ap (λ (z : Obj). object_text z [])
    (spelled_back (core_words ++ met core_words (toks x [])) x [] (covered_by_met core_words (toks x []))).0

cut_texts : (text : List ℕ) (x : Obj) → ObjOk x → tokens text ≡ toks x [] → cut [] text ≡ texts (toks x [])
unfolding tokens
cut_texts text x k e =
    sym (pieces-text (cut [] text) (cut_ok [] text tt) (subst AllFits (sym e) (object-all x k [] tt))) ∙ ap texts e

-- printed, what was read is the text with single spaces and no comments; and that is read to the same image
pub read_then_print : (text : List ℕ) (i : Image Stx) → read_text text ≡ made i
    → (print_text i ≡ single text) × (read_text (single text) ≡ made i)
unfolding single
read_then_print text i e =
    let r = read-from text i e in
    let x = r.object in
    let s : spaced false (cut [] text) ≡ object_text x [] =
    ap (spaced false) (cut_texts text x r.its_leaves r.its_tokens) ∙ whole-spaced x r.its_leaves in (
      ap print_text r.its_image ∙ printed x ∙ sym s,
      ap read_text s ∙ object_back x r.its_leaves r.few_words r.not_deep ∙ ap (λ (z : Image Stx). made z) (sym r.its_image),
    )
