-- The words that a text has, as first met, by the places where they lie in it.
use Rattle.std.specs.Prelude.{ℕ, zero, suc, ◌+◌, ◌-◌, ◌*◌, ◌≤◌, ◌<◌, ◌≡◌, List, [], ◌∷◌, ◌++◌, false, ◌⊎◌, length, get_or, Option, Some, None, Result, Ok, Err, ltb}
use Rattle.model.specs.Reading.{core_words}
use Rattle.requests.specs.Tokens.{word, Token, one, place}
use Rattle.requests.specs.FromText.{met, all_fit}
use Rattle.refusals.specs.declared.Refusal.{Refusal}
use Rattle.refusals.specs.declared.Refusal.TheVariants.{OverLimit}
use Rattle.model.specs.Choice.{when◌then◌else◌}
use Rattle.tokens.specs.Nexts.{part}

-- in an image: the model's most_names, without the core names
abbrev pub most_words : ℕ
most_words = 1020

abbrev pub most_length : ℕ
most_length = 32

abbrev pub word_at : List ℕ → List ℕ → ℕ → List ℕ
word_at text spans i = part text (get_or spans (i * 2) 0) (get_or spans (i * 2 + 1) 0)

-- k words from the i-th on
unfoldable pub words_from : List ℕ → List ℕ → ℕ → ℕ → List (List ℕ)
words_from text spans i zero = []
words_from text spans i (suc k) = word_at text spans i ∷ words_from text spans (suc i) k

abbrev pub found : List ℕ → List ℕ → ℕ → List (List ℕ)
found text spans n = words_from text spans 0 n

abbrev pub all_words : List ℕ → List ℕ → ℕ → List (List ℕ)
all_words text spans n = core_words ++ found text spans n

-- a place in the text, and one behind it
pub record Span (text : List ℕ) (from to : ℕ) : Type 0 where
  pub forward : from ≤ to
  pub within : to ≤ length text

-- n words are stored
pub record Spans (text spans : List ℕ) (n : ℕ) : Type 0 where
  pub few : n ≤ most_words
  pub room : n * 2 ≤ length spans
  pub inside : (i : ℕ) → i < n → Span text (get_or spans (i * 2) 0) (get_or spans (i * 2 + 1) 0)
  pub short : (i : ℕ) → i < n → get_or spans (i * 2 + 1) 0 - get_or spans (i * 2) 0 ≤ most_length

-- ---- looking a word up

-- the place among the core words
abbrev pub core_named : List ℕ → Option ℕ
core_named w = when ltb (place w core_words) 4 then Some (place w core_words) else None

pub record Sought (text spans : List ℕ) (n from to : ℕ) : Type 0 where
  pub stored : Spans text spans n
  pub span : Span text from to

pub record FoundAt (text spans : List ℕ) (n from to r : ℕ) : Type 0 where
  pub is : r ≡ place (part text from to) (found text spans n)

pub record Numbered (text spans : List ℕ) (n from to r : ℕ) : Type 0 where
  pub is : r ≡ place (part text from to) (all_words text spans n)

-- ---- one word more

pub record Storable (text spans : List ℕ) (n from to : ℕ) : Type 0 where
  pub sought : Sought text spans n from to
  pub space : length spans ≡ most_words * 2
  pub short : to - from ≤ most_length

-- with the token k of the text one word more is met, or none; m words are found then
pub record Kept (text spans : List ℕ) (n : ℕ) (k : Token) (spans' : List ℕ) (m : ℕ) : Type 0 where
  pub stored : Spans text spans' m
  pub fits : (ts : List Token) → all_fit (k ∷ ts) ≡ all_fit ts
  pub words : (ts : List Token)
      → found text spans n ++ met (all_words text spans n) (k ∷ ts) ≡ found text spans' m ++ met (all_words text spans' m) ts

-- the token k is over its limit, or there is no room for its word
pub record Beyond (text spans : List ℕ) (n : ℕ) (k : Token) : Type 0 where
  pub over : (ts : List Token) → (all_fit (k ∷ ts) ≡ false) ⊎ (most_words < length (found text spans n ++ met (all_words text spans n) (k ∷ ts)))

abbrev pub NotedAs : List ℕ → List ℕ → ℕ → Token → List ℕ → Result ℕ Refusal → Type 0
NotedAs text spans n k spans' (Ok m) = Kept text spans n k spans' m
NotedAs text spans n k spans' (Err f) = (f ≡ OverLimit) × Beyond text spans n k

pub record Noted (text spans : List ℕ) (n : ℕ) (k : Token) (spans' : List ℕ) (r : Result ℕ Refusal) : Type 0 where
  pub same : length spans' ≡ length spans
  pub is : NotedAs text spans n k spans' r

abbrev pub Notes : List ℕ → List ℕ → ℕ → ℕ → ℕ → List ℕ → Result ℕ Refusal → Type 0
Notes text spans n from to spans' r = Noted text spans n (one (word (part text from to))) spans' r
