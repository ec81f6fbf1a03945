use Rattle.scopes.specs.Sets.{scopes_of}
use Rattle.store.proofs.rivals.next_rival.Given as goal
use Rattle.store.proofs.Competing.{Seeking}

abbrev pub invariant-loop-i : goal.invariant-loop-i
invariant-loop-i l = Seeking l.x.0 (scopes_of l.s) l.store l.count l.past l.i
