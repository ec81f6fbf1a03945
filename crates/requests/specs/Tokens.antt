-- Document 02, T-05: what a text is cut into, and what each token is.
use Rattle.std.specs.Prelude.{ℕ, suc, ◌+◌, ◌-◌, ◌*◌, Bool, true, false, not, ◌&&◌, ◌||◌, List, [], ◌∷◌, ◌++◌, eqb, leb}
use Rattle.model.specs.Choice.{when◌then◌else◌}
use Rattle.model.specs.Reading.{good_word, same_bytes, among}

-- ---- pieces: parted by spaces, tabs or line ends; parentheses and comments end one too

-- tab, line feed, carriage return, space
unfoldable pub space : ℕ → Bool
space b = eqb b 9 || eqb b 10 || eqb b 13 || eqb b 32

unfoldable pub line_end : ℕ → Bool
line_end b = eqb b 10 || eqb b 13

-- ( and )
unfoldable pub paren : ℕ → Bool
paren b = eqb b 40 || eqb b 41

-- the piece w, where it has begun, before l
unfoldable pub ended : List ℕ → List (List ℕ) → List (List ℕ)
ended [] l = l
ended (b ∷ w) l = (b ∷ w) ∷ l

-- The pieces of a text, where w is what of a piece is read already. A parenthesis is a piece; a comment is none.
unfoldable mutual
  unfolding space line_end paren ended

  pub cut : List ℕ → List ℕ → List (List ℕ)
  cut w [] = ended w []
  cut w (b ∷ s) =
      when space b
      then ended w (cut [] s)
      else when paren b
      then ended w ((b ∷ []) ∷ cut [] s)
      else when eqb b 59
      then ended w (comment s)
      else cut (w ++ (b ∷ [])) s

  -- to the end of the line
  pub comment : List ℕ → List (List ℕ)
  comment [] = []
  comment (b ∷ s) = when line_end b then cut [] s else comment s

-- ---- decimal numbers without leading zeros

unfoldable pub digit : ℕ → Bool
digit b = leb 48 b && leb b 57

unfoldable pub all_digits : List ℕ → Bool
unfolding digit
all_digits [] = true
all_digits (b ∷ l) = digit b && all_digits l

unfoldable pub numeral : List ℕ → Bool
unfolding digit all_digits
numeral [] = false
numeral (b ∷ []) = digit b
numeral (b ∷ c ∷ l) = digit b && not (eqb b 48) && all_digits (c ∷ l)

-- the number that the digits l make after n
unfoldable pub value : ℕ → List ℕ → ℕ
value n [] = n
value n (b ∷ l) = value (n * 10 + (b - 48)) l

-- ---- tokens

-- what is no list: a word by its spelling, also a core word
pub data Leaf : Type 0 where
  word : List ℕ → Leaf
  number point prim rung : ℕ → Leaf

pub data Token : Type 0 where
  opening closing bad : Token
  one : Leaf → Token

-- and, or, not, out, set, all
unfoldable pub rung_words : List (List ℕ)
rung_words =
    (97 ∷ 110 ∷ 100 ∷ []) ∷ (111 ∷ 114 ∷ []) ∷ (110 ∷ 111 ∷ 116 ∷ []) ∷ (111 ∷ 117 ∷ 116 ∷ []) ∷ (115 ∷ 101 ∷ 116 ∷ [])
    ∷ (97 ∷ 108 ∷ 108 ∷ []) ∷ []

-- the place of w in a list that has it, from 0
unfoldable pub place : List ℕ → List (List ℕ) → ℕ
unfolding same_bytes
place w [] = 0
place w (v ∷ l) = when same_bytes w v then 0 else suc (place w l)

unfoldable pub numbered : (ℕ → Leaf) → List ℕ → Token
unfolding numeral value
numbered k w = when numeral w then one (k (value 0 w)) else bad

-- the named rung words, and the free ones 6 to 15
unfoldable pub rung_token : List ℕ → Token
unfolding among rung_words place numeral value
rung_token w =
    when among w rung_words
    then one (rung (place w rung_words))
    else when numeral w && leb 6 (value 0 w) && leb (value 0 w) 15
    then one (rung (value 0 w))
    else bad

-- ( ) @ # ' are 40 41 64 35 39
unfoldable pub token_of : List ℕ → Token
unfolding numbered rung_token digit good_word
token_of [] = bad
token_of (b ∷ w) =
    when eqb b 40
    then opening
    else when eqb b 41
    then closing
    else when eqb b 64
    then numbered point w
    else when eqb b 35
    then numbered prim w
    else when eqb b 39
    then rung_token w
    else when digit b
    then numbered number (b ∷ w)
    else when good_word (b ∷ w)
    then one (word (b ∷ w))
    else bad

unfoldable pub tokens_of : List (List ℕ) → List Token
unfolding token_of
tokens_of [] = []
tokens_of (w ∷ l) = token_of w ∷ tokens_of l

unfoldable pub tokens : List ℕ → List Token
unfolding cut tokens_of
tokens text = tokens_of (cut [] text)
