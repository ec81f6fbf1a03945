-- Words laid out as bytes, and taken out of bytes.
use Rattle.std.specs.Prelude.{ℕ, ◌+◌, ◌*◌, ◌/◌, ◌%◌, List, [], ◌∷◌, ◌++◌}

-- the four bytes of a word, low byte first
unfoldable pub bytes_of : ℕ → List ℕ
bytes_of w = w % 256 ∷ w / 256 % 256 ∷ w / 65536 % 256 ∷ w / 16777216 % 256 ∷ []

unfoldable pub bytes_of_words : List ℕ → List ℕ
unfolding bytes_of
bytes_of_words [] = []
bytes_of_words (w ∷ l) = bytes_of w ++ bytes_of_words l

-- the word whose four bytes are those that an output is filled with
abbrev pub bytes_fill : ℕ
bytes_fill = 1515870810

-- the word of four bytes, low byte first
unfoldable pub word_of : ℕ → ℕ → ℕ → ℕ → ℕ
word_of a b c d = a + 256 * b + 65536 * c + 16777216 * d

-- bytes that are no whole word are dropped
unfoldable pub words_of : List ℕ → List ℕ
unfolding word_of
words_of [] = []
words_of (a ∷ []) = []
words_of (a ∷ b ∷ []) = []
words_of (a ∷ b ∷ c ∷ []) = []
words_of (a ∷ b ∷ c ∷ d ∷ l) = word_of a b c d ∷ words_of l
