-- The words of an image, by the places where they begin.
use Rattle.std.specs.Prelude.{ℕ, zero, suc, ◌+◌, ◌≤◌, ◌<◌, ◌≡◌, List, [], ◌∷◌, ◌++◌, length, take, drop, get_or}
use Rattle.model.specs.Reading.{core_words}

-- a word's length, in one byte, and its bytes
abbrev pub word_at : List ℕ → ℕ → List ℕ
word_at image p = take (get_or image p 0) (drop (p + 1) image)

-- k words, whose places stand from the i-th on
unfoldable pub words_at : List ℕ → List ℕ → ℕ → ℕ → List (List ℕ)
words_at image starts i zero = []
words_at image starts i (suc k) = word_at image (get_or starts i 0) ∷ words_at image starts (suc i) k

-- all words, the core words first
abbrev pub spelling : List ℕ → List ℕ → ℕ → List (List ℕ)
spelling image starts n = core_words ++ words_at image starts 0 n

-- a word begins at p
pub record WordAt (image : List ℕ) (p : ℕ) : Type 0 where
  pub begins : p < length image
  pub ends : p + 1 + get_or image p 0 ≤ length image
  pub short : get_or image p 0 ≤ 32

-- the places of n words are known
pub record Spelled (image starts : List ℕ) (n : ℕ) : Type 0 where
  pub few : n ≤ 1020
  pub room : n ≤ length starts
  pub there : (i : ℕ) → i < n → WordAt image (get_or starts i 0)
  pub small : length image ≤ 65536

pub record Spellable (image starts : List ℕ) (n x : ℕ) : Type 0 where
  pub words : Spelled image starts n
  pub declared : x < 4 + n

pub record RoomFor (out : List ℕ) (at : ℕ) (image starts : List ℕ) (n x : ℕ) : Type 0 where
  pub spellable : Spellable image starts n x
  pub room : at + length (get_or (spelling image starts n) x []) ≤ length out

-- ---- finding them

-- where the i-th word begins, if the first begins at p
unfoldable pub place_of : List ℕ → ℕ → ℕ → ℕ
place_of image p zero = p
place_of image p (suc i) = place_of image (p + 1 + get_or image p 0) i

-- n words lie from `first` on
pub record WordsHere (image : List ℕ) (first n : ℕ) (starts : List ℕ) : Type 0 where
  pub few : n ≤ 1020
  pub room : n ≤ length starts
  pub small : length image ≤ 65536
  pub there : (i : ℕ) → i < n → WordAt image (place_of image first i)

pub record FindsWords (image : List ℕ) (first n : ℕ) (starts starts' : List ℕ) : Type 0 where
  pub same : length starts' ≡ length starts
  pub are : (i : ℕ) → i < n → get_or starts' i 0 ≡ place_of image first i
