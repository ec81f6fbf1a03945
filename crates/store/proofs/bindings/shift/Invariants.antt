use Rattle.std.proofs.Common.{◌≤◌}
use Rattle.store.proofs.bindings.shift.Given as goal
use Rattle.store.proofs.Runs.{Moving}

abbrev pub invariant-loop-k : goal.invariant-loop-k
invariant-loop-k l = Moving l.k l.hi l.initial.store l.store × (l.lo ≤ l.k)
