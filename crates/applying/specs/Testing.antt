-- What the tests for codes 10 and 28 give.
use Rattle.std.specs.Prelude.{◌≡◌, List, Bool, ℕ, ◌≤◌, min, length}
use Rattle.model.specs.Trees.{Tree, Trees, tcount}
use Rattle.model.specs.Meanings as m
use Rattle.model.specs.Evaluating.{applicable, allowed}
use Rattle.things.specs.Rep.{Rep, RepP}
use Rattle.environment.specs.declared.Place.{Place}
use Rattle.environment.specs.Places.{RepPlace}
use Rattle.table.specs.Sizes.{table_size}

pub record Counted (l : List ℕ) (c most r : ℕ) : Type 0 where
  pub means : (top : ℕ) (ts : Trees) → RepP l top c ts → r ≡ min most (tcount ts)

pub record Tested (l : List ℕ) (f n : ℕ) (r : Bool) : Type 0 where
  pub means : (top : ℕ) (t : Tree) → Rep l top f t → r ≡ applicable t n

-- a value and a chain that are all in the table
pub record Sought (l : List ℕ) (f c : ℕ) : Type 0 where
  pub top : ℕ
  pub value : Tree
  pub things : Trees
  pub shown : Rep l top f value
  pub shown-parts : RepP l top c things
  pub inside : top ≤ length l
  pub small : length l ≤ table_size

pub record TestedP (l : List ℕ) (f c : ℕ) (r : Bool) : Type 0 where
  pub means : (top : ℕ) (t : Tree) (ts : Trees) → Rep l top f t → RepP l top c ts → r ≡ applicable t (tcount ts)

pub record Permitted (l : List ℕ) (f : ℕ) (p : Place) (r : Bool) : Type 0 where
  pub means : (top : ℕ) (t : Tree) (q : m.Place) → Rep l top f t → RepPlace l top p q → r ≡ allowed q t
