use Rattle.std.proofs.Common.{◌-◌}
use Rattle.scopes.specs.Sets.{scopes_of, set_scopes}
use Rattle.sets.proofs.put_members.Given as goal
use Rattle.sets.proofs.Writing.{Putting}

abbrev pub invariant-loop-left : goal.invariant-loop-left
invariant-loop-left l = Putting l.initial.out l.at (scopes_of l.set) l.out l.here l.left l.k

abbrev pub decreases-loop-left : goal.decreases-loop-left
decreases-loop-left l = set_scopes - l.k
