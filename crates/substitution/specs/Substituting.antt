-- What substituting asks and gives. Room: a node and two cells for each of the tree's size, since chains are made with their last part first and
-- turned round; the root has no cells yet, which leaves them for the caller.
use Rattle.std.specs.Prelude.{◌≡◌, List, ℕ, ◌+◌, ◌*◌, ◌≤◌, length}
use Rattle.model.specs.Trees.{Tree, Trees, fun, tsize, substitute, substitute_all}
use Rattle.table.specs.Words.{get_node, Same}
use Rattle.things.specs.Weights.{tsizes}
use Rattle.things.specs.Rep.{Rep, RepP}
use Rattle.table.specs.Sizes.{cell_size, node_size, turned_size, table_size}

-- ---- a tree i, and the value v that goes in

pub record ReadyToSubstitute (l : List ℕ) (top i v : ℕ) : Type 0 where
  pub thing : Tree
  pub value : Tree
  pub shown : Rep l top i thing
  pub given : Rep l top v value
  pub room : top + turned_size * tsize thing ≤ length l + 2 * cell_size
  pub inside : top ≤ length l
  pub small : length l ≤ table_size
  pub low : 1 ≤ top

pub record Substituted (l l' : List ℕ) (top i x v at top' : ℕ) : Type 0 where
  pub kept : Same top l l'
  pub grows : top ≤ top'
  pub means : (t w : Tree) → Rep l top i t → Rep l top v w → Rep l' top' at (substitute x w t) × (top' + 2 * cell_size ≤ top + turned_size * tsize t)

-- ---- a chain c

pub record ReadyP (l : List ℕ) (top c v : ℕ) : Type 0 where
  pub thing : Trees
  pub value : Tree
  pub shown : RepP l top c thing
  pub given : Rep l top v value
  pub room : top + turned_size * tsizes thing ≤ length l
  pub small : length l ≤ table_size
  pub low : 1 ≤ top

pub record SubstitutedP (l l' : List ℕ) (top c x v at top' : ℕ) : Type 0 where
  pub kept : Same top l l'
  pub grows : top ≤ top'
  pub means : (ts : Trees) (w : Tree) → RepP l top c ts → Rep l top v w → RepP l' top' at (substitute_all x w ts) × (top' ≤ top + turned_size * tsizes ts)

-- ---- a function's body b

pub record ReadyB (l : List ℕ) (top b v : ℕ) : Type 0 where
  pub thing : Tree
  pub value : Tree
  pub shown : Rep l top b thing
  pub given : Rep l top v value
  pub room : top + turned_size * tsize thing + node_size ≤ length l
  pub small : length l ≤ table_size
  pub low : 1 ≤ top

pub record SubstitutedB (l l' : List ℕ) (top b n x v at top' : ℕ) : Type 0 where
  pub kept : Same top l l'
  pub grows : top ≤ top'
  pub means : (t w : Tree) → Rep l top b t → Rep l top v w → Rep l' top' at (fun n (substitute x w t)) × (top' ≤ top + turned_size * tsize t + node_size)

-- ---- an application's or list value's chain c

pub record ReadyL (l : List ℕ) (top c v : ℕ) : Type 0 where
  pub thing : Trees
  pub value : Tree
  pub shown : RepP l top c thing
  pub given : Rep l top v value
  pub room : top + turned_size * tsizes thing + node_size ≤ length l
  pub small : length l ≤ table_size
  pub low : 1 ≤ top

-- a node of that tag with a chain
pub record Holds (l : List ℕ) (top at tag : ℕ) (ts : Trees) : Type 0 where
  pub chain : ℕ
  pub fits : at + node_size ≤ top
  pub is : get_node l at ≡ record { tag = tag; content = chain }
  pub shown : RepP l at chain ts

pub record SubstitutedL (l l' : List ℕ) (top c tag x v at top' : ℕ) : Type 0 where
  pub kept : Same top l l'
  pub grows : top ≤ top'
  pub means : (ts : Trees) (w : Tree) → RepP l top c ts → Rep l top v w → Holds l' top' at tag (substitute_all x w ts) × (top' ≤ top + turned_size * tsizes ts + node_size)
