use Rattle.scopes.proofs.ScopeSet.count_long.Given as goal
use Rattle.scopes.proofs.Counting.{CountedLong}

abbrev pub invariant-loop-i : goal.invariant-loop-i
invariant-loop-i l = CountedLong l.self.words l.i l.n
