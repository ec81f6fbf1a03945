use Rattle.bindings.proofs.storing.bindings_len.Given as goal
use Rattle.bindings.proofs.Lengths.{Counted}

abbrev pub invariant-loop-i : goal.invariant-loop-i
invariant-loop-i l = Counted l.store l.count l.i l.n
