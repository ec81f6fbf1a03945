-- What counting asks and gives.
use Rattle.std.specs.Prelude.{◌≡◌, List, ℕ, ◌+◌, ◌≤◌, min, length}
use Rattle.numbers.specs.Limits.{most_image}
use Rattle.model.specs.Objects.{Stx}
use Rattle.model.specs.Trees.{Tree, Trees, stx, tcount}
use Rattle.numbers.specs.Weights.{longest_number}
use Rattle.sets.specs.Writing.{longest_sets}
use Rattle.things.specs.Rep.{Rep, RepP}
use Rattle.things.specs.Measuring.{Seen, SeenP}
use Rattle.writer.specs.Bytes.{number}

-- two tags, and an object's sets
abbrev pub longest_prefix : ℕ
longest_prefix = 2 + longest_sets

-- with the number that comes last before the parts
abbrev pub longest_front : ℕ
longest_front = longest_prefix + longest_number

pub record PartsAre (l : List ℕ) (c r : ℕ) : Type 0 where
  pub means : (top : ℕ) (ts : Trees) → RepP l top c ts → r ≡ tcount ts

pub record NumberIs (l : List ℕ) (i r : ℕ) : Type 0 where
  pub means : (top : ℕ) (t : Tree) → Rep l top i t → r ≡ number t

pub record LengthIs (bytes : Tree → List ℕ) (most : ℕ) (l : List ℕ) (i r : ℕ) : Type 0 where
  pub means : (top : ℕ) (t : Tree) → Rep l top i t → r ≡ length (bytes t)
  pub short : r ≤ most

-- n bytes are counted already, at most one over the cap
pub record Countable (l : List ℕ) (i n cap : ℕ) : Type 0 where
  pub seen : Seen l i
  pub so_far : n ≤ cap + 1
  pub most : cap ≤ most_image

pub record CountableP (l : List ℕ) (c n cap : ℕ) : Type 0 where
  pub seen : SeenP l c
  pub so_far : n ≤ cap + 1
  pub most : cap ≤ most_image

pub record Counts (bytes : Tree → List ℕ) (l : List ℕ) (i n cap r : ℕ) : Type 0 where
  pub means : (top : ℕ) (t : Tree) → Rep l top i t → r ≡ min (cap + 1) (n + length (bytes t))

pub record CountsP (bytes : Trees → List ℕ) (l : List ℕ) (c n cap r : ℕ) : Type 0 where
  pub means : (top : ℕ) (ts : Trees) → RepP l top c ts → r ≡ min (cap + 1) (n + length (bytes ts))

-- of a syntax object
pub record CountsObject (bytes : Stx → List ℕ) (l : List ℕ) (i n cap r : ℕ) : Type 0 where
  pub means : (top : ℕ) (x : Stx) → Rep l top i (stx x) → r ≡ min (cap + 1) (n + length (bytes x))
