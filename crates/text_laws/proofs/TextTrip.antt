-- The printer's text falls into the object's tokens, and these are read as that object.
use mathlib.Core.Path.{◌≡◌, refl, ap, ◌∙◌, subst}
use Prim.Native.Nat.{ℕ, suc}
use mathlib.Core.Bool.{true, false}
use mathlib.Core.List.{List, [], ◌∷◌, ◌++◌}
use mathlib.Core.Option.{none}
use lib.Dec.{eqb, eqb-suc-zero}
use Rattle.requests.specs.Tokens.{cut, Leaf, Token, opening, closing, bad, one, token_of, tokens_of, tokens}
use Rattle.requests.specs.FromText.{made, unless_second, judged, Obj, leaf, group, Objs, nothing, more, push, shut, built, read_object, all_fit}
use Rattle.requests.specs.ToText.{leaf_text, object_text, parts_text, further_text}
use Rattle.text_laws.proofs.Leaves.{Plain, cut-plain, LeafOk, leaf-fits, leaf-token, leaf-plain}

-- ---- the tokens of an object, before ts

unfoldable mutual
  pub toks : Obj → List Token → List Token
  toks (leaf l) ts = one l ∷ ts
  toks (group l) ts = opening ∷ toks_all l (closing ∷ ts)

  pub toks_all : Objs → List Token → List Token
  toks_all nothing ts = ts
  toks_all (more x l) ts = toks x (toks_all l ts)

abbrev mutual
  pub ObjOk : Obj → Type 0
  ObjOk (leaf l) = LeafOk l
  ObjOk (group l) = ObjsOk l

  pub ObjsOk : Objs → Type 0
  ObjsOk nothing = Unit {0}
  ObjsOk (more x l) = ObjOk x × ObjsOk l

-- ---- the text falls into them

-- a text whose start ends a piece
abbrev pub Ends : List ℕ → Type 0
Ends s = (b : ℕ) (w : List ℕ) → cut (b ∷ w) s ≡ (b ∷ w) ∷ cut [] s

pub ends-nil : Ends []
unfolding cut
ends-nil b w = refl

ends-space : (s : List ℕ) → Ends (32 ∷ s)
unfolding cut
ends-space s b w = refl

ends_close : (s : List ℕ) → Ends (41 ∷ s)
unfolding cut
ends_close s b w = refl

ends-further : (l : Objs) (rest : List ℕ) → Ends rest → Ends (further_text l rest)
unfolding further_text
ends-further nothing rest e = e
ends-further (more x l) rest e = ends-space (object_text x (further_text l rest))

bad≢one : (l : Leaf) → bad ≡ one l → ⊥
bad≢one l e = subst code e tt
  where
    code : Token → Type 0
    code bad = Unit {0}
    code opening = ⊥
    code closing = ⊥
    code (one l) = ⊥

no-piece : (l : Leaf) → token_of [] ≡ one l → ⊥
unfolding token_of
no-piece l e = bad≢one l e

-- a piece that is a token
piece : (w : List ℕ) (l : Leaf) (rest : List ℕ) → Plain w → token_of w ≡ one l → Ends rest → tokens (w ++ rest) ≡ one l ∷ tokens rest
unfolding tokens
piece [] l rest p t e = absurd (no-piece l t)
piece (b ∷ w) l rest p t e =
    ap tokens_of (cut-plain [] (b ∷ w) rest p ∙ e b w) ∙ ap (λ (z : Token). z ∷ tokens_of (cut [] rest)) t

pub after_open : (s : List ℕ) → tokens (40 ∷ s) ≡ opening ∷ tokens s
unfolding tokens
after_open s = refl

pub after_close : (s : List ℕ) → tokens (41 ∷ s) ≡ closing ∷ tokens s
unfolding tokens
after_close s = refl

pub after-space : (s : List ℕ) → tokens (32 ∷ s) ≡ tokens s
unfolding tokens
after-space s = refl

mutual
  unfolding object_text toks

  pub object-tokens : (x : Obj) → ObjOk x → (rest : List ℕ) → Ends rest → tokens (object_text x rest) ≡ toks x (tokens rest)
  object-tokens (leaf l) k rest e = piece (leaf_text l) l rest (leaf-plain l k) (leaf-token l k) e
  object-tokens (group l) k rest e =
      after_open (parts_text l (41 ∷ rest))
      ∙ ap (λ (z : List Token). opening ∷ z) (parts-tokens l k (41 ∷ rest) (ends_close rest) ∙ ap (toks_all l) (after_close rest))

  parts-tokens : (l : Objs) → ObjsOk l → (rest : List ℕ) → Ends rest → tokens (parts_text l rest) ≡ toks_all l (tokens rest)
  parts-tokens nothing k rest e = refl
  parts-tokens (more x l) k rest e =
      object-tokens x k.0 (further_text l rest) (ends-further l rest e) ∙ ap (toks x) (further-tokens l k.1 rest e)

  further-tokens : (l : Objs) → ObjsOk l → (rest : List ℕ) → Ends rest → tokens (further_text l rest) ≡ toks_all l (tokens rest)
  further-tokens nothing k rest e = refl
  further-tokens (more x l) k rest e =
      after-space (object_text x (further_text l rest))
      ∙ object-tokens x k.0 (further_text l rest) (ends-further l rest e) ∙ ap (toks x) (further-tokens l k.1 rest e)

-- ---- and these are read as the object

unfoldable joined : Objs → Objs → Objs
joined nothing k = k
joined (more x l) k = more x (joined l k)

joined-nothing : (l : Objs) → joined l nothing ≡ l
unfolding joined
joined-nothing nothing = refl
joined-nothing (more x l) = ap (more x) (joined-nothing l)

mutual
  unfolding toks built push shut joined

  pub object-built : (x : Obj) (ts : List Token) → built (toks x ts) ≡ push x (built ts)
  object-built (leaf l) ts = refl
  object-built (group l) ts =
      ap shut (parts-built l (closing ∷ ts) nothing (built ts) refl ∙ ap (λ (z : Objs). z ∷ built ts) (joined-nothing l))

  parts-built : (l : Objs) (ts : List Token) (k : Objs) (ls : List Objs) → built ts ≡ k ∷ ls → built (toks_all l ts) ≡ joined l k ∷ ls
  parts-built nothing ts k ls e = e
  parts-built (more x l) ts k ls e = object-built x (toks_all l ts) ∙ ap (push x) (parts-built l ts k ls e)

-- inside parentheses an object is no fault
mutual
  unfolding toks judged unless_second

  object-judged : (x : Obj) (d : ℕ) (ts : List Token) → judged (suc d) true (toks x ts) ≡ judged (suc d) true ts
  object-judged (leaf l) d ts = rw (eqb-suc-zero d)
  object-judged (group l) d ts = rw (eqb-suc-zero d) (parts-judged l (suc d) (closing ∷ ts))

  parts-judged : (l : Objs) (d : ℕ) (ts : List Token) → judged (suc d) true (toks_all l ts) ≡ judged (suc d) true ts
  parts-judged nothing d ts = refl
  parts-judged (more x l) d ts = object-judged x d (toks_all l ts) ∙ parts-judged l d ts

pub whole-judged : (x : Obj) → judged 0 false (toks x []) ≡ none
unfolding toks judged
whole-judged (leaf l) = refl
whole-judged (group l) = parts-judged l 0 (closing ∷ [])

pub object-read : (x : Obj) → read_object (toks x []) ≡ made x
unfolding read_object
object-read x = rw (whole-judged x, object-built x [])

mutual
  unfolding toks all_fit

  pub object-fits : (x : Obj) → ObjOk x → (ts : List Token) → all_fit ts ≡ true → all_fit (toks x ts) ≡ true
  object-fits (leaf l) k ts e = rw (leaf-fits l k) e
  object-fits (group l) k ts e = parts-fit l k (closing ∷ ts) e

  parts-fit : (l : Objs) → ObjsOk l → (ts : List Token) → all_fit ts ≡ true → all_fit (toks_all l ts) ≡ true
  parts-fit nothing k ts e = e
  parts-fit (more x l) k ts e = object-fits x k.0 (toks_all l ts) (parts-fit l k.1 ts e)
