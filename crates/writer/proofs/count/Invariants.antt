use Rattle.writer.proofs.count.Given as goal
use Rattle.writer.proofs.Counting.{Walk}

abbrev pub invariant-loop-place : goal.invariant-loop-place
invariant-loop-place l = Walk l.table l.c l.place l.n

abbrev pub decreases-loop-place : goal.decreases-loop-place
decreases-loop-place l = l.place
