use Rattle.places.proofs.Walking.{Noting}
use Rattle.places.proofs.counting.tally.Given as goal

abbrev pub invariant-loop-place : goal.invariant-loop-place
invariant-loop-place l = Noting l.counts l.c.at l.s l.count l.initial.words l.here.at l.place l.words
