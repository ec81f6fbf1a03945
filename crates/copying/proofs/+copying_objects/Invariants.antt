use Rattle.std.proofs.Common.{◌+◌, ◌*◌}
use Rattle.copying.specs.Working.{copying_of}
use Rattle.copying.proofs.+copying_objects.Given as goal
use Rattle.copying.proofs.Reaching.{Passing}

abbrev pub decreases-copy_each : goal.decreases-copy_each
decreases-copy_each l = 2 * l.levels + 1

abbrev pub decreases-copy_object : goal.decreases-copy_object
decreases-copy_object l = 2 * l.levels

abbrev pub invariant-copy_each-loop-part : goal.invariant-copy_each-loop-part
invariant-copy_each-loop-part l = Passing (copying_of l.work) l.initial.table l.table l.top l.c l.end l.part

abbrev pub decreases-copy_each-loop-part : goal.decreases-copy_each-loop-part
decreases-copy_each-loop-part l = l.part
