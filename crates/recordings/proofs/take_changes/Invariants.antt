use Rattle.recordings.proofs.Taking.{Taking}
use Rattle.recordings.proofs.take_changes.Given as goal

abbrev pub invariant-loop : goal.invariant-loop
invariant-loop l = Taking l.c.at l.s l.initial.points l.count l.here.at l.counter l.least l.points
