-- What the code keeps of a syntax object that it reads: its size. `symbols` and `scopes` are how many the head declares.
use Rattle.std.specs.Prelude.{ℕ, zero, suc, ◌+◌, Bool, true, false, eqb}
use Rattle.model.specs.Limits.{last_point, last_primitive, last_rung_word}
use Rattle.model.specs.Refusals.{layout, over_limit}
use Rattle.model.specs.Reading.{Reader, ◌>>=◌, ◌>>◌, give, fail, num, num_up_to, num_below, read_sets}

-- an atom's content
unfoldable pub read_content_of : ℕ → ℕ → Reader ℕ
unfolding num num_up_to num_below last_point last_primitive last_rung_word
read_content_of symbols zero = num_below symbols
read_content_of symbols (suc zero) = num
read_content_of symbols (suc (suc zero)) = num_up_to over_limit last_point
read_content_of symbols (suc (suc (suc zero))) = num_up_to over_limit last_primitive
read_content_of symbols (suc (suc (suc (suc zero)))) = num_up_to over_limit last_rung_word
read_content_of symbols (suc (suc (suc (suc (suc n))))) = fail layout

-- an object's tag, read with the sets behind it
unfoldable pub read_top : ℕ → Reader ℕ
unfolding num_up_to read_sets
read_top scopes = do
  t ← num_up_to layout 5
  read_sets scopes
  give t

-- the size of c more parts, added to what the parts before them came to
unfoldable pub measure_parts : ℕ → ℕ → Reader ℕ → Reader ℕ
measure_parts zero sum part = give sum
measure_parts (suc c) sum part = do
  n ← part
  measure_parts c (sum + n) part

-- what follows the sets
unfoldable pub measure_content : ℕ → Reader ℕ → ℕ → Bool → Reader ℕ
unfolding num measure_parts read_content_of
measure_content symbols part t true = do
  c ← num
  n ← measure_parts c 0 part
  give (n + 1)
measure_content symbols part t false = do
  read_content_of symbols t
  give 1

unfoldable pub measure_stx : ℕ → ℕ → ℕ → Reader ℕ
unfolding read_top measure_content
measure_stx symbols scopes zero = fail over_limit
measure_stx symbols scopes (suc l) = do
  t ← read_top scopes
  measure_content symbols (measure_stx symbols scopes l) t (eqb t 5)

unfoldable pub measure_list : ℕ → ℕ → ℕ → Reader ℕ
unfolding num measure_parts measure_stx
measure_list symbols scopes l = do
  c ← num
  n ← measure_parts c 0 (measure_stx symbols scopes l)
  give (n + 1)
