-- A chain turned round. What is made part by part comes out with its last part first, since a cell points only to what lies below it; turned
-- round once more it stands as it should.
use Rattle.std.specs.Prelude.{List, ℕ, suc, ◌+◌, ◌*◌, ◌≤◌, ◌≡◌, length}
use Rattle.model.specs.Trees.{Trees, tnil, tcons}
use Rattle.table.specs.Sizes.{cell_size, table_size}
use Rattle.table.specs.Words.{Same}
use Rattle.things.specs.Rep.{RepP}

-- ts turned round, and then us
unfoldable pub turn_onto : Trees → Trees → Trees
turn_onto tnil us = us
turn_onto (tcons t ts) us = turn_onto ts (tcons t us)

unfoldable pub counts : Trees → ℕ
counts tnil = 0
counts (tcons t ts) = suc (counts ts)

pub record Turnable (l : List ℕ) (top c : ℕ) : Type 0 where
  pub thing : Trees
  pub shown : RepP l top c thing
  pub room : top + cell_size * counts thing ≤ length l
  pub small : length l ≤ table_size
  pub low : 1 ≤ top

pub record Turned (l l' : List ℕ) (top c at top' : ℕ) : Type 0 where
  pub kept : Same top l l'
  pub grows : top ≤ top'
  pub means : (ts : Trees) → RepP l top c ts → RepP l' top' at (turn_onto ts tnil) × (top' ≡ top + cell_size * counts ts)
