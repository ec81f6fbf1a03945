-- A line in a buffer.
use Rattle.std.specs.Prelude.{ℕ, ◌≤◌, ◌≡◌, List, ◌++◌, length, take, drop}

-- out' starts with these bytes, which are n, and is as out was behind them
pub record Printed (bytes out out' : List ℕ) (n : ℕ) : Type 0 where
  pub count : n ≡ length bytes
  pub is : out' ≡ bytes ++ drop (length bytes) out
  -- both follow; they are here because a caller that takes the first n bytes has to show them
  pub within : n ≤ length out'
  pub long : n ≡ length (take n out')
