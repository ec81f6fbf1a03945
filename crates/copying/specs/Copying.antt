-- What copying an object, with its sets changed or gone, asks and gives.
use Rattle.std.specs.Prelude.{List, ℕ, ◌+◌, ◌*◌, ◌≤◌, length}
use Rattle.model.specs.Objects.{Stx, size}
use Rattle.model.specs.Trees.{Tree, stx}
use Rattle.table.specs.Words.{Same}
use Rattle.things.specs.Rep.{Rep}
use Rattle.table.specs.Sizes.{cell_size, part_size, table_size, most_budget}

-- An object that was charged for, and room for its copy: a node, and the cell that its whole wants, for each unit of its size.
pub record Copyable (l : List ℕ) (top i : ℕ) : Type 0 where
  pub thing : Stx
  pub shown : Rep l top i (stx thing)
  pub charged : size thing ≤ most_budget
  pub room : top + part_size * size thing ≤ length l + cell_size
  pub small : length l ≤ table_size
  pub low : 1 ≤ top

-- What is made stands for g of the object, what lay below is there still, and no more than that room is taken.
pub record Copy (g : Stx → Tree) (l' : List ℕ) (top at top' : ℕ) (x : Stx) : Type 0 where
  pub shown : Rep l' top' at (g x)
  pub room : top' + cell_size ≤ top + part_size * size x

pub record Copied (g : Stx → Tree) (l l' : List ℕ) (top i at top' : ℕ) : Type 0 where
  pub kept : Same top l l'
  pub grows : top ≤ top'
  pub means : (x : Stx) → Rep l top i (stx x) → Copy g l' top at top' x
