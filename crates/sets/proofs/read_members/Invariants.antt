use Rattle.std.proofs.Common.{◌-◌}
use Rattle.scopes.specs.Sets.{scopes_of}
use Rattle.sets.proofs.read_members.Given as goal
use Rattle.sets.proofs.Reading.{Members}

abbrev pub invariant-loop : goal.invariant-loop
invariant-loop l = Members l.c.at l.scopes l.s l.count l.here.at (l.count - l.counter) l.last (scopes_of l.set)
