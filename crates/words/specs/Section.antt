-- The word section of an image, of which the words already passed are looked up in its bytes.
use Rattle.std.specs.Prelude.{ℕ, suc, ◌+◌, ◌≤◌, ◌≡◌, List, [], ◌∷◌, Bool, not, ◌&&◌, length, take, drop, eqb, leb, Result}
use Rattle.model.specs.Limits.{most_word_length}
use Rattle.model.specs.Refusals.{layout, over_limit}
use Rattle.model.specs.Reading.{Reader, ◌>>=◌, ◌>>◌, give, need, got, num, good_word, among, core_words, read_words}
use Rattle.refusals.specs.declared.Refusal.{Refusal}
use Rattle.numbers.specs.declared.Cursor.{Cursor}
use Rattle.numbers.specs.Answers.{place_at}
use Rattle.numbers.specs.Limits.{most_image}

-- in an image: the model's most_names, without the core names
abbrev pub most_words : ℕ
most_words = 1020

-- a word's length, which is judged before its bytes
unfoldable pub word_length : Reader ℕ
unfolding num most_word_length
word_length = do
  k ← num
  need layout (not (eqb k 0))
  need over_limit (leb k most_word_length)
  give k

-- a word that may stand behind the words seen
unfoldable pub may_stand : List ℕ → List (List ℕ) → Bool
unfolding good_word among
may_stand w seen = good_word w && not (among w seen)

-- k words lie one behind another at the front of s, with rest behind them
pub data Passed : ℕ → List (List ℕ) → List ℕ → List ℕ → Type 0 where
  no_word : {s : List ℕ} → Passed 0 [] s s
  one_word : {k n : ℕ} {ws : List (List ℕ)} {s u rest : List ℕ} → word_length s ≡ got n u → n ≤ length u → Passed k ws (drop n u) rest → Passed (suc k) (take n u ∷ ws) s rest

-- what the definition has seen behind those words: the last first, and the core words before them
unfoldable pub seen_after : List (List ℕ) → List (List ℕ) → List (List ℕ)
seen_after [] seen = seen
seen_after (w ∷ ws) seen = seen_after ws (w ∷ seen)

-- ---- what the functions ask and give

-- w is one of the first k words of the section s
pub record Old (s : List ℕ) (k : ℕ) (w : List ℕ) (r : Bool) : Type 0 where
  pub means : (ws : List (List ℕ)) (rest : List ℕ) → Passed k ws s rest → r ≡ among w ws

pub record Stands (s : List ℕ) (k : ℕ) (w : List ℕ) (r : Bool) : Type 0 where
  pub means : (ws : List (List ℕ)) (rest : List ℕ) → Passed k ws s rest → r ≡ may_stand w (seen_after ws core_words)

-- a place of the image s behind `done` words of the section that begins at `start`, with `left` to come
pub record Midway (s : List ℕ) (start at done left : ℕ) : Type 0 where
  pub small : length s ≤ most_image
  pub begins : start ≤ length s
  pub within : at ≤ length s
  pub most : done + left ≤ most_words

pub record WordsRead (s : List ℕ) (start at done left : ℕ) (r : Result Cursor Refusal) : Type 0 where
  pub means : (ws : List (List ℕ)) → Passed done ws (drop start s) (drop at s) → r ≡ place_at (length s) (read_words left (seen_after ws core_words) (drop at s))
