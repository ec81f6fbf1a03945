use Prim.Native.Nat.{◌-◌}
use lib.ListN.{length}
use Rattle.ranking.proofs.RootLaws.{Rooting}
use Rattle.ranking.proofs.roots.put_root.Given as goal

abbrev pub invariant-loop-from : goal.invariant-loop-from
invariant-loop-from l = Rooting l.initial.out l.at l.ranks l.image l.scopes l.out l.here l.from

abbrev pub decreases-loop-from : goal.decreases-loop-from
decreases-loop-from l = length l.image - l.from
