use Rattle.store.specs.Words.{bind_of}
use Rattle.bindings.proofs.loading.read_more.Given as goal
use Rattle.bindings.proofs.InTurn.{Midway}

abbrev pub invariant-loop-k : goal.invariant-loop-k
invariant-loop-k l = Midway l.counts l.s l.c.at (bind_of l.initial.prior) l.i l.count l.initial.store l.here.at l.k (bind_of l.prior) l.store
