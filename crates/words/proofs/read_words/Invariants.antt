use Rattle.std.proofs.Common.{◌+◌, ◌-◌}
use Rattle.words.proofs.read_words.Given as goal
use Rattle.words.proofs.Section.{Reading}

abbrev pub invariant-loop-passed : goal.invariant-loop-passed
invariant-loop-passed l = Reading l.s l.start l.at l.done l.left l.here.at l.passed (l.done + l.left - l.passed)
