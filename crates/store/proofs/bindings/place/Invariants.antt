use Rattle.store.specs.Words.{bind_of}
use Rattle.store.proofs.bindings.place.Given as goal
use Rattle.store.proofs.Runs.{Passed}

abbrev pub invariant-loop-i : goal.invariant-loop-i
invariant-loop-i l = Passed (bind_of l.b) l.store l.count l.i
