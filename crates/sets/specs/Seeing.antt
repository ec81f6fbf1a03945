-- What stands before three empty sets are taken at once.
use Rattle.std.specs.Prelude.{ℕ, ◌≤◌, ◌≡◌, List, length, get_or}

-- three empty sets come first
pub record StartsEmpty (s : List ℕ) : Type 0 where
  pub long : 3 ≤ length s
  pub first : get_or s 0 0 ≡ 0
  pub second : get_or s 1 0 ≡ 0
  pub third : get_or s 2 0 ≡ 0
