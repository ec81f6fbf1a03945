-- What making asks and gives.
use Rattle.std.specs.Prelude.{◌≡◌, List, ℕ, ◌+◌, ◌≤◌, length}
use Rattle.model.specs.Trees.{Tree, Trees, fun, tcons}
use Rattle.table.specs.Words.{get_node, get_sets, Same}
use Rattle.table.specs.declared.Node.{Node}
use Rattle.table.specs.declared.Sets.{Sets}
use Rattle.things.specs.Rep.{Rep, RepP, sets_of}
use Rattle.table.specs.Sizes.{cell_size, node_size, table_size}

-- n words are free
pub record Roomy (l : List ℕ) (top n : ℕ) : Type 0 where
  pub fits : top + n ≤ length l
  pub small : length l ≤ table_size
  pub low : 1 ≤ top

-- a node, below which all is as it was
pub record Stored (l l' : List ℕ) (top : ℕ) (n : Node) (at top' : ℕ) : Type 0 where
  pub kept : Same top l l'
  pub place : at ≡ top
  pub grows : top' ≡ top + node_size
  pub node : get_node l' at ≡ n

pub record StoredObject (l l' : List ℕ) (top : ℕ) (n : Node) (c : Sets) (at top' : ℕ) : Type 0 where
  pub stored : Stored l l' top n at top'
  pub sets : sets_of (get_sets l' at) ≡ sets_of c

-- a function with the body b
pub record Closable (l : List ℕ) (top b : ℕ) : Type 0 where
  pub thing : Tree
  pub shown : Rep l top b thing
  pub room : Roomy l top node_size

pub record Closed (l l' : List ℕ) (top name b at top' : ℕ) : Type 0 where
  pub kept : Same top l l'
  pub grows : top' ≡ top + node_size
  pub means : (t : Tree) → Rep l top b t → Rep l' top' at (fun name t)

-- a cell more
pub record Linkable (l : List ℕ) (top i c : ℕ) : Type 0 where
  pub thing : Tree
  pub others : Trees
  pub shown : Rep l top i thing
  pub shown-others : RepP l top c others
  pub room : Roomy l top cell_size

pub record Linked (l l' : List ℕ) (top i c at top' : ℕ) : Type 0 where
  pub kept : Same top l l'
  pub grows : top' ≡ top + cell_size
  pub means : (t : Tree) (ts : Trees) → Rep l top i t → RepP l top c ts → RepP l' top' at (tcons t ts)
