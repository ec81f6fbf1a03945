use Prim.Native.Nat.{◌+◌, ◌-◌}
use lib.ListN.{length}
use Rattle.places.proofs.Passing.{Midway}
use Rattle.places.proofs.pass_over.Given as goal

abbrev pub invariant-loop-pending : goal.invariant-loop-pending
invariant-loop-pending l = Midway l.counts l.c.at l.s l.here.at l.pending l.size

abbrev pub decreases-loop-pending : goal.decreases-loop-pending
decreases-loop-pending l = l.c.at + length l.s - l.here.at
