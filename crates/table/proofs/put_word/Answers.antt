use Rattle.table.specs.Words.{put_word}
use Rattle.table.proofs.put_word.Goals as goal
use native.Mathlib.Numerals.{towards_suc}
use Rattle.table.specs.Words.{halves}

pub returns : goal.returns
unfolding put_word halves
returns c = simp towards_suc
