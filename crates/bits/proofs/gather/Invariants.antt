use Rattle.bits.proofs.gather.Given as goal
use Rattle.bits.proofs.Gathering.{Midway}

abbrev pub invariant-loop : goal.invariant-loop
invariant-loop l = Midway l.c.at l.s l.here.at l.counter l.marks l.names l.g
