use Rattle.std.proofs.Common.{◌≡◌}
use Rattle.scopes.specs.Sets.{set_words}
use Rattle.scopes.proofs.ScopeSet.within.Given as goal
use lib.Bits.{bit_and}
use Rattle.scopes.proofs.Ops.{Each}

abbrev pub invariant-loop-i : goal.invariant-loop-i
invariant-loop-i l = Each (λ x y. bit_and x y ≡ x) set_words l.self.words l.other.words l.i
