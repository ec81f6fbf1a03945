use Rattle.places.proofs.Walking.{Looking}
use Rattle.places.proofs.counting.find.Given as goal

abbrev pub invariant-loop-place : goal.invariant-loop-place
invariant-loop-place l = Looking l.counts l.c.at l.s l.count l.name l.here.at l.place
