use Rattle.scopes.specs.Sets.{scopes_of}
use Rattle.store.specs.Pass.{seen_of}
use Rattle.store.proofs.resolving.resolve.Given as goal
use Rattle.store.proofs.Taking.{Underway}

abbrev pub invariant-loop-i : goal.invariant-loop-i
invariant-loop-i l = Underway l.x.0 (scopes_of l.s) l.store l.count (seen_of l.seen) l.i
