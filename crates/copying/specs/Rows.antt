-- Copies in a row, and the chain of them.
use Rattle.std.specs.Prelude.{◌≡◌, List, ℕ, ◌+◌, ◌*◌, ◌≤◌, length}
use Rattle.model.specs.Objects.{Stx, Stxs, nil, cons, size, sizes}
use Rattle.model.specs.Trees.{from_stxs}
use Rattle.table.specs.Words.{Same}
use Rattle.things.specs.Rep.{Rep, RepP}
use Rattle.copying.specs.Reaching.{Copying, copy_of, copies_of}
use Rattle.table.specs.Sizes.{cell_size, node_size, part_size, table_size, most_budget}

-- The copies of the parts ps, but not yet of those of rest, lie from the word `from` to the word `end`, each with its node last.
pub data Laid (w : Copying) (l : List ℕ) (from : ℕ) (ps : Stxs) : ℕ → Stxs → Type 0 where
  laid_none : Laid w l from ps from ps
  laid_one : {b at end : ℕ} {x : Stx} {rest : Stxs} → Laid w l from ps b (cons x rest) → at + node_size ≡ end → end + cell_size ≡ b + part_size * size x → Rep l end at (copy_of w x)
      → Laid w l from ps end rest

pub record CopiedEach (w : Copying) (l l' : List ℕ) (top c end : ℕ) : Type 0 where
  pub kept : Same top l l'
  pub grows : top ≤ end
  pub means : (ps : Stxs) → RepP l top c (from_stxs ps) → sizes ps ≤ most_budget → Laid w l' top ps end nil

-- a copy's size is what was copied
pub record Sized (l : List ℕ) (i n : ℕ) : Type 0 where
  pub means : (w : Copying) (top : ℕ) (x : Stx) → Rep l top i (copy_of w x) → size x ≤ most_budget → n ≡ size x

-- with room for their chain and the node that is to hold it
pub record Row (l : List ℕ) (from end : ℕ) : Type 0 where
  pub by : Copying
  pub thing : Stxs
  pub laid : Laid by l from thing end nil
  pub charged : sizes thing ≤ most_budget
  pub room : from + part_size * sizes thing + node_size ≤ length l
  pub small : length l ≤ table_size
  pub low : 1 ≤ from

pub record Chain (w : Copying) (l' : List ℕ) (from at top' : ℕ) (ps : Stxs) : Type 0 where
  pub shown : RepP l' top' at (copies_of w ps)
  pub room : top' ≡ from + part_size * sizes ps

pub record Chained (l l' : List ℕ) (from end at top' : ℕ) : Type 0 where
  pub kept : Same end l l'
  pub grows : end ≤ top'
  pub means : (w : Copying) (ps : Stxs) → Laid w l from ps end nil → sizes ps ≤ most_budget → Chain w l' from at top' ps
