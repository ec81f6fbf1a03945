use Rattle.asking.proofs.ByKind.{Passing}
use Rattle.asking.proofs.kinds.all_ids.Given as goal

abbrev pub invariant-loop-k : goal.invariant-loop-k
invariant-loop-k l = Passing l.table l.c l.k

abbrev pub decreases-loop-k : goal.decreases-loop-k
decreases-loop-k l = l.k
