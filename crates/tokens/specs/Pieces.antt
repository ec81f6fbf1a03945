-- What a piece is, as the code answers it.
use Rattle.std.specs.Prelude.{ℕ, ◌≤◌, ◌<◌, ◌≡◌, List, ◌∷◌, ◌++◌, Bool, true, false, get_or, ltb, Option, None, Some}
use Rattle.model.specs.Choice.{when◌then◌else◌}
use Rattle.model.specs.Objects.{no_sets, atom}
use Rattle.model.specs.Writing.{num_bytes, sets_bytes, stx_bytes}
use Rattle.requests.specs.Tokens.{place, rung_words, paren, Leaf, word, Token, bad, one, numbered, rung_token, token_of}
use Rattle.requests.specs.FromText.{met, atom_of, leaf_fits}
use Rattle.tokens.specs.Decimals.{over}
use Rattle.tokens.specs.declared.pieces.Piece.{Piece}
use Rattle.tokens.specs.declared.pieces.Piece.TheVariants.{Bad, Word, Atom, Over}

-- the model's last_primitive
abbrev pub last_prim : ℕ
last_prim = 9

abbrev pub is_bad : Piece → Bool
is_bad Bad = true
is_bad Word = false
is_bad (Atom tag content) = false
is_bad Over = false

-- an atom that is no word: within its limit, written as its tag, no sets and its content, and no word met
pub record AtomIs (tag content : ℕ) (l : Leaf) : Type 0 where
  pub tag_small : tag < 5
  pub content-small : content < over
  pub fits : leaf_fits l ≡ true
  pub written : (all : List (List ℕ)) → stx_bytes (atom no_sets (atom_of all l)) ≡ num_bytes tag ++ sets_bytes no_sets ++ num_bytes content
  pub no_word : (seen : List (List ℕ)) (ts : List Token) → met seen (one l ∷ ts) ≡ met seen ts

pub record AtomToken (tag content : ℕ) (t : Token) : Type 0 where
  pub leaf : Leaf
  pub is : t ≡ one leaf
  pub atom-is : AtomIs tag content leaf

pub record OverToken (t : Token) : Type 0 where
  pub leaf : Leaf
  pub is : t ≡ one leaf
  pub not-fits : leaf_fits leaf ≡ false

abbrev pub means : Token → List ℕ → Piece → Type 0
means t w Bad = t ≡ bad
means t w Word = t ≡ one (word w)
means t w (Atom tag content) = AtomToken tag content t
means t w Over = OverToken t

pub record Means (t : Token) (w : List ℕ) (r : Piece) : Type 0 where
  pub is : means t w r

-- numbers, points or primitives, by tag and limit
pub record Kind (k : ℕ → Leaf) (tag most : ℕ) : Type 0 where
  pub within : (n : ℕ) → n ≤ most → AtomIs tag n (k n)
  pub beyond : (n : ℕ) → most < n → leaf_fits (k n) ≡ false

pub record Marks (s : List ℕ) (tag most : ℕ) (r : Piece) : Type 0 where
  pub is : (k : ℕ → Leaf) (w : List ℕ) → Kind k tag most → Means (numbered k s) w r

-- the place among the named rung words
abbrev pub rung_named : List ℕ → Option ℕ
rung_named w = when ltb (place w rung_words) 6 then Some (place w rung_words) else None

-- what stands behind ', of a piece w
pub record Rungs (s : List ℕ) (r : Piece) : Type 0 where
  pub is : (w : List ℕ) → Means (rung_token s) w r

-- of a piece that is no parenthesis
pub record PieceIs (w : List ℕ) (r : Piece) : Type 0 where
  pub is : paren (get_or w 0 0) ≡ false → Means (token_of w) w r
