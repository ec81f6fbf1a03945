use Rattle.table.specs.Words.{put_entry}
use Rattle.table.proofs.put_entry.Goals as goal
use native.Mathlib.Numerals.{towards_suc}
use Rattle.table.specs.Words.{entry_words}

pub returns : goal.returns
unfolding put_entry entry_words
returns c = simp towards_suc
