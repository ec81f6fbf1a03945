-- What is known of a place that was found among the bytes of a tree.
use Rattle.std.specs.Prelude.{ℕ, ◌+◌, ◌-◌, ◌≤◌, ◌<◌, ◌≡◌, List, ◌++◌, eqb, length, drop}
use Rattle.model.specs.Choice.{when◌then◌else◌}
use Rattle.model.specs.Trees as m
use Rattle.model.specs.Trees.{tsize}
use Rattle.model.specs.Writing.{tree_bytes}
use Rattle.requests.specs.Uses as u
use Rattle.requests.specs.Replacing.{spot_in, replaced}
use Rattle.head.specs.declared.Counts.{Counts}
use Rattle.places.specs.declared.Thing.{Thing}
use Rattle.places.specs.Reading.{along}
use Rattle.places.specs.Standing.{At, Tree}
use Rattle.replacing.specs.declared.locating.Spot.{Spot}

unfoldable pub lowest : Thing → ℕ
lowest t = when eqb t.tag 4 then 2 else 0

-- some tree stands at the front of s that has such a place
pub record Inside (k : Counts) (s : List ℕ) (place : ℕ) : Type 0 where
  pub here : Tree k s
  pub inside : place < tsize here.tree

-- of the tree t, which stands at the front of s: s begins at `at`
pub record Found (k : Counts) (s : List ℕ) (at place : ℕ) (t : m.Tree) (rest : List ℕ) (r : Spot) : Type 0 where
  pub levels-are : r.levels ≡ (spot_in place t).levels
  pub low-is : r.low ≡ (spot_in place t).low
  pub from : at ≤ r.at.at
  pub within : r.at.at ≤ at + length s
  pub before : List ℕ
  pub behind : List ℕ
  pub part_at : At k (drop (r.at.at - at) s) (spot_in place t).part (behind ++ rest)
  pub long : at + length before ≡ r.at.at
  pub bytes : tree_bytes t ≡ before ++ (tree_bytes (spot_in place t).part ++ behind)
  pub puts : (u : m.Tree) → tree_bytes (replaced u t place) ≡ before ++ (tree_bytes u ++ behind)
  -- the things that stand before the place
  pub met : List u.Thing
  pub met-long : length met ≡ place
  pub reads : (n : ℕ) → along k (place + n) s ≡ met ++ along k n (drop (r.at.at - at) s)

abbrev pub Locates : Counts → List ℕ → ℕ → ℕ → Spot → Type 0
Locates k s at place r = (t : m.Tree) (rest : List ℕ) → At k s t rest → place < tsize t → Found k s at place t rest r
