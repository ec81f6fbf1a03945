use Rattle.things.proofs.turn.Given as goal
use Rattle.things.proofs.Turning.{Turning}

abbrev pub invariant-loop-from : goal.invariant-loop-from
invariant-loop-from l = Turning l.initial.table l.top l.c l.table l.end l.from l.at

abbrev pub decreases-loop-from : goal.decreases-loop-from
decreases-loop-from l = l.from
