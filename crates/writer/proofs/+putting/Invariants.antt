use Rattle.std.proofs.Common.{◌+◌, ◌*◌}
use Rattle.writer.proofs.+putting.Given as goal
use Rattle.writer.proofs.Putting.{Put}

abbrev pub decreases-put_thing : goal.decreases-put_thing
decreases-put_thing l = l.i * 2 + 1

abbrev pub decreases-put_things : goal.decreases-put_things
decreases-put_things l = l.c * 2

abbrev pub invariant-put_things-loop-place : goal.invariant-put_things-loop-place
invariant-put_things-loop-place l = Put l.lead l.table l.c l.initial.out l.at l.place l.out l.here

abbrev pub decreases-put_things-loop-place : goal.decreases-put_things-loop-place
decreases-put_things-loop-place l = l.place
