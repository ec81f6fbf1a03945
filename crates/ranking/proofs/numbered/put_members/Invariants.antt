use Prim.Native.Nat.{◌-◌}
use Rattle.scopes.specs.Sets.{scopes_of}
use Rattle.ranking.proofs.MemberLaws.{Putting}
use Rattle.ranking.proofs.numbered.put_members.Given as goal

abbrev pub invariant-loop-left : goal.invariant-loop-left
invariant-loop-left l = Putting l.initial.out l.at l.ranks (scopes_of l.set) l.out l.here l.left l.k

abbrev pub decreases-loop-left : goal.decreases-loop-left
decreases-loop-left l = 256 - l.k
