use Rattle.bindings.proofs.storing.put_bindings.Given as goal
use Rattle.bindings.proofs.Lengths.{Written}

abbrev pub invariant-loop-i : goal.invariant-loop-i
invariant-loop-i l = Written l.store l.count l.initial.out l.at l.out l.here l.i
