use Rattle.table.specs.Words.{put_function}
use Rattle.table.proofs.put_function.Goals as goal
use native.Mathlib.Numerals.{towards_suc}
use Rattle.table.specs.Words.{function_words}

pub returns : goal.returns
unfolding put_function function_words
returns c = simp towards_suc
