use Rattle.std.proofs.Common.{◌≡◌}
use Rattle.scopes.specs.Sets.{set_words}
use Rattle.scopes.proofs.ScopeSet.before.Given as goal
use Rattle.scopes.proofs.Ops.{Each}

abbrev pub invariant-loop-i : goal.invariant-loop-i
invariant-loop-i l = Each (λ x y. x ≡ y) set_words l.self.words l.other.words l.i
