use Rattle.marking.proofs.ChainLaws.{Chaining}
use Rattle.marking.proofs.chains.chain.Given as goal

abbrev pub invariant-loop-i : goal.invariant-loop-i
invariant-loop-i l = Chaining l.store l.initial.lasts l.initial.befores l.lasts l.befores l.i
