use Rattle.answer_line.proofs.Taking.{Taking}
use Rattle.std.proofs.Common.{◌≡◌, length}
use Rattle.answer_line.proofs.words.take_words.Given as goal

abbrev pub invariant-loop-i : goal.invariant-loop-i
invariant-loop-i l = Taking l.bytes l.initial.words l.words l.i × (l.i-end ≡ length l.initial.words)
