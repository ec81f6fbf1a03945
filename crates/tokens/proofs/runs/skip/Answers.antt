use Rattle.std.proofs.Common.{rules}
use Rattle.tokens.proofs.RunLaws.{skip_laws}
use Rattle.tokens.proofs.runs.skip.Goals as goal

pub loop-i-preserved : goal.loop-i-preserved
loop-i-preserved c = search (skip_laws, rules)

pub loop-i-preserved-then-space : goal.loop-i-preserved-then-space
loop-i-preserved-then-space c = search (skip_laws, rules)
