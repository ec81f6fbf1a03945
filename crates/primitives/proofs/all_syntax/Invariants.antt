use Rattle.primitives.proofs.all_syntax.Given as goal
use Rattle.primitives.proofs.Syntax.{Scanned}

abbrev pub invariant-loop-at : goal.invariant-loop-at
invariant-loop-at l = Scanned l.table l.c l.at

-- proposed from the loop's first test
abbrev pub decreases-loop-at : goal.decreases-loop-at
decreases-loop-at l = l.at
