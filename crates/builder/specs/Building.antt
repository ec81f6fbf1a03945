-- What building asks and gives, for any of the ways to read a thing or so many things. A node and two cells for
-- each part are enough, since chains are made with their last part first and turned round; a whole leaves over the cells that it will want.
use Rattle.std.specs.Prelude.{◌≡◌, List, ℕ, ◌+◌, ◌*◌, ◌≤◌, length, drop}
use Rattle.scopes.specs.Sets.{set_scopes}
use Rattle.model.specs.Objects.{size}
use Rattle.model.specs.Trees.{Tree, Trees, load_size, tsizes_by}
use Rattle.table.specs.Words.{Same}
use Rattle.table.specs.declared.Node.{Node}
use Rattle.things.specs.Making.{Stored}
use Rattle.things.specs.Rep.{Rep, RepP}
use Rattle.builder.specs.Fronts.{Within, Left}
use Rattle.builder.specs.declared.Built.{Built}
use Rattle.table.specs.Sizes.{cell_size, turned_size, table_size}

abbrev pub load_sizes : Trees → ℕ
load_sizes ts = tsizes_by size ts

-- so many words are free, and `at` is a place of the image
pub record Room (l : List ℕ) (top n : ℕ) (image : List ℕ) (at scopes : ℕ) : Type 0 where
  pub fits : top + n ≤ length l
  pub small : length l ≤ table_size
  pub low : 1 ≤ top
  pub place : Within image at
  pub few : scopes ≤ set_scopes

pub record Judged (R : List ℕ → Tree → List ℕ → Type 0) (l : List ℕ) (top : ℕ) (image : List ℕ) (at scopes : ℕ) : Type 0 where
  pub thing : Tree
  pub rest : List ℕ
  pub read : R (drop at image) thing rest
  pub room : Room l top (turned_size * load_size thing) image at scopes

pub record JudgedAll (R : ℕ → List ℕ → Trees → List ℕ → Type 0) (count : ℕ) (l : List ℕ) (top : ℕ) (image : List ℕ) (at scopes : ℕ) : Type 0 where
  pub thing : Trees
  pub rest : List ℕ
  pub read : R count (drop at image) thing rest
  pub room : Room l top (turned_size * load_sizes thing) image at scopes

-- t was built, and `rest` is behind it, not before the place `from`
pub record Stands (l : List ℕ) (top : ℕ) (image : List ℕ) (from : ℕ) (r : Built) (t : Tree) (rest : List ℕ) : Type 0 where
  pub shown : Rep l r.top r.at t
  pub grows : r.top + 2 * cell_size ≤ top + turned_size * load_size t
  pub left : Left image from r.past rest

pub record StandsAll (l : List ℕ) (top : ℕ) (image : List ℕ) (at : ℕ) (r : Built) (ts : Trees) (rest : List ℕ) : Type 0 where
  pub shown : RepP l r.top r.at ts
  pub grows : r.top ≤ top + turned_size * load_sizes ts
  pub left : Left image at r.past rest

-- whatever stands there was built, and all below top is as it was
pub record Builds (R : List ℕ → Tree → List ℕ → Type 0) (l l' : List ℕ) (top : ℕ) (image : List ℕ) (at from : ℕ) (r : Built) : Type 0 where
  pub kept : Same top l l'
  pub rises : top ≤ r.top
  pub means : (t : Tree) (rest : List ℕ) → R (drop at image) t rest → Stands l' top image from r t rest

pub record BuildsAll (R : ℕ → List ℕ → Trees → List ℕ → Type 0) (count : ℕ) (l l' : List ℕ) (top : ℕ) (image : List ℕ) (at : ℕ) (r : Built) : Type 0 where
  pub kept : Same top l l'
  pub rises : top ≤ r.top
  pub means : (ts : Trees) (rest : List ℕ) → R count (drop at image) ts rest → StandsAll l' top image at r ts rest

-- a node was stored, whose bytes end at `past`
pub record StoredLeaf (l l' : List ℕ) (top : ℕ) (n : Node) (past : ℕ) (r : Built) : Type 0 where
  pub stored : Stored l l' top n r.at r.top
  pub past_is : r.past ≡ past
