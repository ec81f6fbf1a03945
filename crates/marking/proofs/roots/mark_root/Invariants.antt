use Prim.Native.Nat.{◌-◌}
use lib.ListN.{length}
use Rattle.scopes.specs.Sets.{scopes_of}
use Rattle.marking.proofs.RootLaws.{Rooting}
use Rattle.marking.proofs.roots.mark_root.Given as goal

abbrev pub invariant-loop-at : goal.invariant-loop-at
invariant-loop-at l = Rooting l.store l.image l.scopes l.lasts l.befores l.initial.marks l.marks l.at (scopes_of l.used)

abbrev pub decreases-loop-at : goal.decreases-loop-at
decreases-loop-at l = length l.image - l.at
