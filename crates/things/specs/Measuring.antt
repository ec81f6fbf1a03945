-- What measuring asks and gives.
use Rattle.std.specs.Prelude.{◌≡◌, List, ℕ, ◌+◌, ◌≤◌, min, length}
use Rattle.model.specs.Trees.{Tree, Trees, tsize, tnesting, tnestings}
use Rattle.things.specs.Weights.{tsizes, weight, weights}
use Rattle.things.specs.Rep.{Rep, RepP}
use Rattle.things.specs.declared.Extent.{Extent}
use Rattle.table.specs.Sizes.{table_size, most_size}

-- a tree, or a chain, that is all in the table
pub record Seen (l : List ℕ) (i : ℕ) : Type 0 where
  pub top : ℕ
  pub thing : Tree
  pub shown : Rep l top i thing
  pub inside : top ≤ length l
  pub small : length l ≤ table_size

pub record SeenP (l : List ℕ) (c : ℕ) : Type 0 where
  pub top : ℕ
  pub thing : Trees
  pub shown : RepP l top c thing
  pub inside : top ≤ length l
  pub small : length l ≤ table_size

pub record Extends (m : Extent) (t : Tree) : Type 0 where
  pub size : m.size ≡ min most_size (tsize t)
  pub weight : m.weight ≡ min most_size (weight t)
  pub nesting : m.nesting ≡ tnesting t

pub record ExtendsP (m : Extent) (ts : Trees) : Type 0 where
  pub size : m.size ≡ min most_size (tsizes ts)
  pub weight : m.weight ≡ min most_size (weights ts)
  pub nesting : m.nesting ≡ tnestings ts

pub record Measured (l : List ℕ) (i : ℕ) (m : Extent) : Type 0 where
  pub means : (top : ℕ) (t : Tree) → Rep l top i t → Extends m t

pub record MeasuredP (l : List ℕ) (c : ℕ) (m : Extent) : Type 0 where
  pub means : (top : ℕ) (ts : Trees) → RepP l top c ts → ExtendsP m ts

-- of an application or list value, by its chain
pub record ExtendsL (m : Extent) (ts : Trees) : Type 0 where
  pub size : m.size ≡ min most_size (1 + tsizes ts)
  pub weight : m.weight ≡ 0
  pub nesting : m.nesting ≡ 1 + tnestings ts

pub record MeasuredL (l : List ℕ) (c : ℕ) (m : Extent) : Type 0 where
  pub means : (top : ℕ) (ts : Trees) → RepP l top c ts → ExtendsL m ts
