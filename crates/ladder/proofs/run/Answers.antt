use Rattle.std.proofs.Common.{rules}
use Rattle.ladder.proofs.run.Goals as goal
use Rattle.ladder.proofs.Looping.{loop_laws}

pub loop-word-init : goal.loop-word-init
loop-word-init c = search (loop_laws, rules)

pub step-values-requires : goal.step-values-requires
step-values-requires c = search (loop_laws, rules)

pub loop-word-preserved : goal.loop-word-preserved
loop-word-preserved c = search (loop_laws, rules)

pub returns-clause-points : goal.returns-clause-points
returns-clause-points c = search (loop_laws, rules)

pub returns-clause-bits : goal.returns-clause-bits
returns-clause-bits c = search (loop_laws, rules)
