-- A tree at the front of some bytes, and what passing over it gives.
use Rattle.std.specs.Prelude.{ℕ, ◌+◌, ◌≤◌, ◌<◌, ◌≡◌, List, ◌++◌, length}
use Rattle.model.specs.Limits.{most_nesting}
use Rattle.model.specs.Trees as m
use Rattle.model.specs.Trees.{tsize, tnesting}
use Rattle.model.specs.Reading.{Head, symbols}
use Rattle.model.specs.Writing.{tree_bytes}
use Rattle.codec_laws.specs.WellFormed.{TreeFits}
use Rattle.numbers.specs.Limits.{most_image}
use Rattle.head.specs.Fronts.{most_names}
use Rattle.scopes.specs.Sets.{set_scopes}
use Rattle.head.specs.declared.Counts.{Counts}
use Rattle.places.specs.declared.Span.{Span}

-- the counts are those of a head, and small
pub record Declared (k : Counts) : Type 0 where
  pub head : Head
  pub symbols-are : k.symbols ≡ symbols head
  pub names-are : k.names ≡ head.names
  pub scopes-are : k.scopes ≡ head.scopes
  pub scopes-few : k.scopes ≤ set_scopes
  pub names-few : k.names ≤ most_names
  pub symbols-few : k.symbols < 4294967296

-- t stands at the front of s, and `rest` behind it
pub record At (k : Counts) (s : List ℕ) (t : m.Tree) (rest : List ℕ) : Type 0 where
  pub declared : Declared k
  pub is : s ≡ tree_bytes t ++ rest
  pub fits : TreeFits k.symbols k.names k.scopes t
  pub shallow : tnesting t ≤ most_nesting
  pub short : length (tree_bytes t) ≤ most_image

-- some tree does
pub record Tree (k : Counts) (s : List ℕ) : Type 0 where
  pub tree : m.Tree
  pub rest : List ℕ
  pub at : At k s tree rest

-- of s, which begins at the place `at`
pub record Passed (at : ℕ) (t : m.Tree) (r : Span) : Type 0 where
  pub size_is : r.size ≡ tsize t
  pub end_is : r.end.at ≡ at + length (tree_bytes t)

abbrev pub Passes : Counts → List ℕ → ℕ → Span → Type 0
Passes k s at r = (t : m.Tree) (rest : List ℕ) → At k s t rest → Passed at t r
