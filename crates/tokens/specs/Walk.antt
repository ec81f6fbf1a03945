-- What the walk over a text says.
use Rattle.std.specs.Prelude.{ℕ, ◌≤◌, ◌<◌, ◌≡◌, List, false, length, take, drop, get_or}
use Rattle.requests.specs.Tokens.{space, tokens}
use Rattle.text_laws.specs.Passes.{run, after_run, after_line}

-- n bytes are a piece's, and what comes after them ends it
pub record RunEnds (s : List ℕ) (n : ℕ) : Type 0 where
  pub inside : n ≤ length s
  pub piece : take n s ≡ run s
  pub rest : drop n s ≡ after_run s

-- n bytes are a comment's
pub record LineEnds (s : List ℕ) (n : ℕ) : Type 0 where
  pub inside : n ≤ length s
  pub rest : drop n s ≡ after_line s

-- n bytes are no token's, and what comes after them begins one
pub record Skipped (s : List ℕ) (n : ℕ) : Type 0 where
  pub inside : n ≤ length s
  pub same : tokens (drop n s) ≡ tokens s
  pub begins : n < length s → (space (get_or s n 0) ≡ false) × (get_or s n 0 ≡ 59 → ⊥)
