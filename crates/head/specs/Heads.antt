-- The head of an image in the steps that the code takes, and what the code keeps of it.
use Rattle.std.specs.Prelude.{ℕ, ◌+◌, ◌-◌, ◌≡◌, List, ◌||◌, length, drop, eqb, Result}
use Rattle.model.specs.Limits.{most_names, core_names, most_scopes}
use Rattle.model.specs.Refusals.{layout, over_limit, wrong_kind}
use Rattle.model.specs.Reading as m
use Rattle.model.specs.Reading.{Reader, ◌>>=◌, ◌>>◌, give, need, num, num_up_to, read_words, core_words}
use Rattle.refusals.specs.declared.Refusal.{Refusal}
use Rattle.numbers.specs.declared.Cursor.{Cursor}
use Rattle.numbers.specs.Answers.{read_at, kept}
use Rattle.head.specs.declared.Head.{Head}
use Rattle.head.specs.declared.Counts.{Counts}

unfoldable pub read_kind : ℕ → Reader (Unit {0})
unfolding num
read_kind kind = do
  k ← num
  need layout (eqb k 1 || eqb k 2)
  need wrong_kind (eqb k kind)

-- behind w words, ws
unfoldable pub read_counts : ℕ → List (List ℕ) → Reader m.Head
unfolding num_up_to most_names core_names most_scopes
read_counts w ws = do
  made ← num_up_to over_limit (most_names - core_names - w)
  n ← num_up_to over_limit most_scopes
  give (record { words = ws; names = core_names + w + made; scopes = n })

unfoldable pub read_after_kind : Reader m.Head
unfolding num_up_to read_words core_words read_counts most_names core_names
read_after_kind = do
  w ← num_up_to over_limit (most_names - core_names)
  ws ← read_words w core_words
  read_counts w ws

-- the code keeps how many words there are
abbrev pub head_of : m.Head → Head
head_of h = record { words = length h.words; names = h.names; scopes = h.scopes }

abbrev pub declares : Head → Counts
declares h = record { symbols = h.words + 4; names = h.names; scopes = h.scopes }

abbrev pub head_at : ℕ → m.Read m.Head → Result (Head × Cursor) Refusal
head_at end g = read_at end (kept head_of g)

pub record CountsRead (s : List ℕ) (at words : ℕ) (r : Result (Head × Cursor) Refusal) : Type 0 where
  pub means : (ws : List (List ℕ)) → length ws ≡ words → r ≡ head_at (length s) (read_counts words ws (drop at s))
