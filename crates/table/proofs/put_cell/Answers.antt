use Rattle.table.specs.Words.{put_cell}
use Rattle.table.proofs.put_cell.Goals as goal
use native.Mathlib.Numerals.{towards_suc}
use Rattle.table.specs.Words.{cell_words}

pub returns : goal.returns
unfolding put_cell cell_words
returns c = simp towards_suc
