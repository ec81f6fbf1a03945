use Rattle.std.specs.Int.Bits.{bit_or}
use Rattle.scopes.specs.Sets.{set_words}
use Rattle.scopes.proofs.ScopeSet.union.Given as goal
use Rattle.scopes.proofs.Ops.{Over}

abbrev pub invariant-loop-i : goal.invariant-loop-i
invariant-loop-i l = Over bit_or set_words l.self.words l.other.words l.r.words l.i
