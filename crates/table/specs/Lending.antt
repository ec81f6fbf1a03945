-- The words of the table that are lent for a budget.
use Rattle.std.specs.Prelude.{ℕ, ◌*◌, ◌≤◌, List, length}
use Rattle.table.specs.Sizes.{table_size, unit_size}

-- what each unit pays for, and at most a whole table
pub record Lent (l : List ℕ) (budget : ℕ) : Type 0 where
  pub room : unit_size * budget ≤ length l
  pub small : length l ≤ table_size
