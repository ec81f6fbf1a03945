use Rattle.asking.proofs.Stopping.{Stopping}
use Rattle.asking.proofs.naming.stop_all.Given as goal

abbrev pub invariant-loop-k : goal.invariant-loop-k
invariant-loop-k l = Stopping l.at l.store l.initial.table l.s l.c l.table l.k

abbrev pub decreases-loop-k : goal.decreases-loop-k
decreases-loop-k l = l.k
