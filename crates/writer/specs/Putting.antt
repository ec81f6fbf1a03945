-- What writing asks and gives.
use Rattle.std.specs.Prelude.{◌≡◌, List, ℕ, ◌+◌, ◌≤◌, length, false}
use Rattle.std.proofs.lemmas.List.Edits.{sets}
use Rattle.model.specs.Objects.{Stx}
use Rattle.model.specs.Trees.{Tree, Trees, stx}
use Rattle.table.specs.Tags.{list_tag}
use Rattle.table.specs.Words.{get_node}
use Rattle.things.specs.Rep.{Rep, RepP}
use Rattle.writer.specs.Bytes.{prefix}
use Rattle.table.specs.Sizes.{table_size}

-- the bytes of the thing at i fit into the output from a place on
pub record Fitting (bytes : Tree → List ℕ) (l : List ℕ) (i : ℕ) (out : List ℕ) (at : ℕ) : Type 0 where
  pub top : ℕ
  pub thing : Tree
  pub shown : Rep l top i thing
  pub inside : top ≤ length l
  pub small : length l ≤ table_size
  pub fits : at + length (bytes thing) ≤ length out

pub record FittingP (bytes : Trees → List ℕ) (l : List ℕ) (c : ℕ) (out : List ℕ) (at : ℕ) : Type 0 where
  pub top : ℕ
  pub thing : Trees
  pub shown : RepP l top c thing
  pub inside : top ≤ length l
  pub small : length l ≤ table_size
  pub fits : at + length (bytes thing) ≤ length out

-- the tag and sets of a syntax object fit; its tag is known
pub record FittingPrefix (l : List ℕ) (i : ℕ) (out : List ℕ) (at tag : ℕ) : Type 0 where
  pub fitting : Fitting (prefix false) l i out at
  pub tag_is : tag ≡ (get_node l i).tag
  pub object : tag ≤ list_tag

pub record FittingObject (bytes : Stx → List ℕ) (l : List ℕ) (i : ℕ) (out : List ℕ) (at : ℕ) : Type 0 where
  pub top : ℕ
  pub thing : Stx
  pub shown : Rep l top i (stx thing)
  pub inside : top ≤ length l
  pub small : length l ≤ table_size
  pub fits : at + length (bytes thing) ≤ length out

-- the bytes bs were stored from `at` on, and nothing else
pub record Wrote (bs : List ℕ) (out out' : List ℕ) (at past : ℕ) : Type 0 where
  pub past_is : past ≡ at + length bs
  pub out-is : out' ≡ sets out at bs

pub record Puts (bytes : Tree → List ℕ) (l : List ℕ) (i : ℕ) (out out' : List ℕ) (at past : ℕ) : Type 0 where
  pub means : (top : ℕ) (t : Tree) → Rep l top i t → Wrote (bytes t) out out' at past

pub record PutsP (bytes : Trees → List ℕ) (l : List ℕ) (c : ℕ) (out out' : List ℕ) (at past : ℕ) : Type 0 where
  pub means : (top : ℕ) (ts : Trees) → RepP l top c ts → Wrote (bytes ts) out out' at past

pub record PutsObject (bytes : Stx → List ℕ) (l : List ℕ) (i : ℕ) (out out' : List ℕ) (at past : ℕ) : Type 0 where
  pub means : (top : ℕ) (x : Stx) → Rep l top i (stx x) → Wrote (bytes x) out out' at past
