use Rattle.scopes.specs.Sets.{set_words}
use Rattle.scopes.proofs.ScopeSet.prune.Given as goal
use lib.Bits.{bit_and, bit_xor}
use Rattle.scopes.proofs.Ops.{Over}

abbrev pub invariant-loop-i : goal.invariant-loop-i
invariant-loop-i l = Over (λ p m. bit_xor m (bit_and p m)) set_words l.prunable.words l.self.words l.r.words l.i
