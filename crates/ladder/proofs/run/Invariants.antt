use Rattle.ladder.proofs.run.Given as goal
use Rattle.ladder.proofs.Looping.{Midway}

abbrev pub invariant-loop-word : goal.invariant-loop-word
invariant-loop-word l = Midway l.code l.initial.points l.initial.bits l.word-index l.points l.bits l.values
