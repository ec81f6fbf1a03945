-- Document 02, T-05: from text to a syntax image with no scopes, words numbered as first met.
use Rattle.std.specs.Prelude.{ℕ, zero, suc, ◌+◌, ◌-◌, Bool, true, false, ◌&&◌, List, [], ◌∷◌, ◌++◌, eqb, ltb, leb, length}
use Rattle.std.proofs.Math.Option.{Option, none, some}
use Rattle.model.specs.Choice.{when◌then◌else◌}
use Rattle.model.specs.Limits.{most_names, core_names, most_nesting, most_word_length, last_point, last_primitive, last_rung_word}
use Rattle.model.specs.Refusals.{Refusal, over_limit, code_of}
use Rattle.model.specs.Objects.{Atom, symbol, no_sets, Stx, atom, list, Stxs, nil, cons, nesting}
use Rattle.model.specs.Objects as o
use Rattle.model.specs.Reading.{among, core_words, Image}
use Rattle.requests.specs.Tokens.{Leaf, word, number, point, prim, rung, Token, opening, closing, bad, one, place, tokens}

-- ---- refusals: 26 bad text, also no object or a second one; 27 unbalanced; and document 01's 1, 2, 4 and 20

pub data TextRefusal : Type 0 where
  base : Refusal → TextRefusal
  bad_text unbalanced : TextRefusal

abbrev pub text_code : TextRefusal → ℕ
text_code (base r) = code_of r
text_code bad_text = 26
text_code unbalanced = 27

-- what is made, or the refusal
pub data Made (A : Type 0) : Type 0 where
  made : A → Made A
  refused : TextRefusal → Made A

-- ---- 26 and 27, the first from the front

-- whatever starts a second object, where d parentheses are open
unfoldable pub unless_second : ℕ → Bool → Option TextRefusal → Option TextRefusal
unless_second d begun after = when begun && eqb d 0 then some bad_text else after

-- at the end something open is 27, no object 26
unfoldable pub at_last : ℕ → Bool → Option TextRefusal
at_last zero begun = when begun then none else some bad_text
at_last (suc d) begun = some unbalanced

-- d parentheses are open, and an object has begun or not
unfoldable pub judged : ℕ → Bool → List Token → Option TextRefusal
unfolding unless_second at_last
judged d begun [] = at_last d begun
judged d begun (bad ∷ ts) = some bad_text
judged d begun (opening ∷ ts) = unless_second d begun (judged (suc d) true ts)
judged zero begun (closing ∷ ts) = some unbalanced
judged (suc d) begun (closing ∷ ts) = judged d begun ts
judged d begun (one l ∷ ts) = unless_second d begun (judged d true ts)

-- ---- the object, symbols by spelling

mutual
  pub data Obj : Type 0 where
    leaf : Leaf → Obj
    group : Objs → Obj

  pub data Objs : Type 0 where
    nothing : Objs
    more : Obj → Objs → Objs

-- The tokens from the back: the lists that are open there, the innermost first, each with its parts from there on. A closing
-- parenthesis begins a list, an opening one makes it a part of the next.
unfoldable pub push : Obj → List Objs → List Objs
push x [] = []
push x (l ∷ ls) = more x l ∷ ls

unfoldable pub shut : List Objs → List Objs
unfolding push
shut [] = []
shut (l ∷ ls) = push (group l) ls

unfoldable pub built : List Token → List Objs
unfolding push shut
built [] = nothing ∷ []
built (one l ∷ ts) = push (leaf l) (built ts)
built (opening ∷ ts) = shut (built ts)
built (closing ∷ ts) = nothing ∷ built ts
built (bad ∷ ts) = built ts

-- the one object; where `judged` finds no fault there is one
unfoldable pub the_object : List Objs → Made Obj
the_object [] = refused bad_text
the_object (nothing ∷ ls) = refused bad_text
the_object (more x nothing ∷ []) = made x
the_object (more x nothing ∷ l ∷ ls) = refused bad_text
the_object (more x (more y l) ∷ ls) = refused bad_text

unfoldable pub unless : Option TextRefusal → Made Obj → Made Obj
unless (some r) x = refused r
unless none x = x

unfoldable pub read_object : List Token → Made Obj
unfolding judged built the_object unless
read_object ts = unless (judged 0 false ts) (the_object (built ts))

-- ---- words numbered as first met; core words read as names 0 to 3

-- the words that are not among those seen
unfoldable pub met : List (List ℕ) → List Token → List (List ℕ)
unfolding among
met seen [] = []
met seen (one (word w) ∷ ts) = when among w seen then met seen ts else w ∷ met (w ∷ seen) ts
met seen (one (number n) ∷ ts) = met seen ts
met seen (one (point n) ∷ ts) = met seen ts
met seen (one (prim n) ∷ ts) = met seen ts
met seen (one (rung n) ∷ ts) = met seen ts
met seen (opening ∷ ts) = met seen ts
met seen (closing ∷ ts) = met seen ts
met seen (bad ∷ ts) = met seen ts

-- a symbol's number is its word's place among all, the core words first
unfoldable pub atom_of : List (List ℕ) → Leaf → Atom
unfolding place
atom_of all (word w) = symbol (place w all)
atom_of all (number n) = o.number n
atom_of all (point n) = o.point n
atom_of all (prim n) = o.prim n
atom_of all (rung n) = o.rung n

unfoldable mutual
  unfolding no_sets atom_of

  pub syntax_of : List (List ℕ) → Obj → Stx
  syntax_of all (leaf l) = atom no_sets (atom_of all l)
  syntax_of all (group l) = list no_sets (syntaxes_of all l)

  pub syntaxes_of : List (List ℕ) → Objs → Stxs
  syntaxes_of all nothing = nil
  syntaxes_of all (more x l) = cons (syntax_of all x) (syntaxes_of all l)

-- ---- image limits: code 2

unfoldable pub leaf_fits : Leaf → Bool
unfolding most_word_length last_point last_primitive last_rung_word
leaf_fits (word w) = leb (length w) most_word_length
leaf_fits (number n) = ltb n 4294967296
leaf_fits (point n) = leb n last_point
leaf_fits (prim n) = leb n last_primitive
leaf_fits (rung n) = leb n last_rung_word

unfoldable pub all_fit : List Token → Bool
unfolding leaf_fits
all_fit [] = true
all_fit (one l ∷ ts) = leaf_fits l && all_fit ts
all_fit (opening ∷ ts) = all_fit ts
all_fit (closing ∷ ts) = all_fit ts
all_fit (bad ∷ ts) = all_fit ts

-- ---- the image: no scopes, no bindings, no made names

unfoldable pub image_of : List (List ℕ) → Obj → Image Stx
unfolding core_names core_words syntax_of
image_of ws x =
    record {
      head = record { words = ws; names = core_names + length ws; scopes = 0 };
      binds = [];
      root = syntax_of (core_words ++ ws) x;
    }

unfoldable pub within : List Token → Image Stx → Bool
unfolding all_fit most_names core_names most_nesting nesting
within ts i = all_fit ts && leb (length i.head.words) (most_names - core_names) && leb (nesting i.root) most_nesting

unfoldable pub limited : List Token → Image Stx → Made (Image Stx)
unfolding within
limited ts i = when within ts i then made i else refused (base over_limit)

unfoldable pub numbered_from : List Token → Made Obj → Made (Image Stx)
unfolding limited image_of met core_words
numbered_from ts (made x) = limited ts (image_of (met core_words ts) x)
numbered_from ts (refused r) = refused r

unfoldable pub read_text : List ℕ → Made (Image Stx)
unfolding tokens read_object numbered_from
read_text text = numbered_from (tokens text) (read_object (tokens text))
