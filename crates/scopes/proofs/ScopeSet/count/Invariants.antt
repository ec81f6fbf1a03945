use Rattle.scopes.proofs.ScopeSet.count.Given as goal
use Rattle.scopes.proofs.Counting.{CountedWords}

abbrev pub invariant-loop-i : goal.invariant-loop-i
invariant-loop-i l = CountedWords l.self.words l.i l.n
