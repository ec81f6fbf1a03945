use Rattle.scopes.specs.Sets.{scopes_of}
use Rattle.store.specs.Words.{bind_of}
use Rattle.store.proofs.rivals.is_uncontained.Given as goal
use Rattle.store.proofs.Competing.{Deciding}

abbrev pub invariant-loop-i : goal.invariant-loop-i
invariant-loop-i l = Deciding l.x.0 (scopes_of l.s) (bind_of l.b) l.store l.count l.i
