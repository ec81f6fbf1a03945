use Rattle.answer_line.specs.Words.{word_of}
use Rattle.answer_line.proofs.words.word.Goals as goal
use native.Mathlib.Omega.{arith}

pub returns : goal.returns
unfolding word_of
returns c = let e = c.from_le_bytes.ensures in omega (arith, e)
