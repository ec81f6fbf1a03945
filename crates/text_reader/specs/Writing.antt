-- The image written.
use Rattle.std.specs.Prelude.{ℕ, ◌+◌, ◌-◌, ◌≤◌, List, [], ◌∷◌, ◌++◌, length}
use Rattle.model.specs.Writing.{num_bytes, words_bytes}
use Rattle.numbers.specs.Limits.{most_image}
use Rattle.tokens.specs.Nexts.{part}
use Rattle.text_reader.specs.Found.{most_length, found, Span, Spans}
use Rattle.text_reader.specs.Items.{root_from, Sound}

-- kind, words, and no made names, scopes or bindings
abbrev pub head_from : List (List ℕ) → List ℕ
head_from ws = num_bytes 1 ++ (num_bytes (length ws) ++ (words_bytes ws ++ (0 ∷ 0 ∷ 0 ∷ [])))

abbrev pub image_from : List ℕ → List ℕ → ℕ → List ℕ
image_from text spans n = head_from (found text spans n) ++ root_from text spans n 0

pub record RootRoom (out : List ℕ) (at : ℕ) (text spans : List ℕ) (n : ℕ) : Type 0 where
  pub sound : Sound text spans n 0
  pub short : length (root_from text spans n 0) ≤ most_image
  pub room : at + length (root_from text spans n 0) ≤ length out

-- a word of the text behind its length
abbrev pub word_bytes : List ℕ → ℕ → ℕ → List ℕ
word_bytes text first past = num_bytes (past - first) ++ part text first past

pub record WordRoom (out : List ℕ) (at : ℕ) (text : List ℕ) (first past : ℕ) : Type 0 where
  pub span : Span text first past
  pub short : past - first ≤ most_length
  pub room : at + length (word_bytes text first past) ≤ length out

pub record WordsRoom (out : List ℕ) (at : ℕ) (text spans : List ℕ) (n : ℕ) : Type 0 where
  pub stored : Spans text spans n
  pub room : at + length (words_bytes (found text spans n)) ≤ length out

pub record HeadRoom (out text spans : List ℕ) (n : ℕ) : Type 0 where
  pub stored : Spans text spans n
  pub room : length (head_from (found text spans n)) ≤ length out

pub record ImageRoom (out text spans : List ℕ) (n : ℕ) : Type 0 where
  pub sound : Sound text spans n 0
  pub short : length (image_from text spans n) ≤ most_image
  pub room : length (image_from text spans n) ≤ length out
