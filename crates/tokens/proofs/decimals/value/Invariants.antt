use Rattle.tokens.proofs.DecimalLaws.{Valuing}
use Rattle.tokens.proofs.decimals.value.Given as goal

abbrev pub invariant-loop-b : goal.invariant-loop-b
invariant-loop-b l = Valuing l.s l.n l.b-index
