use Rattle.std.proofs.Common.{rules}
use Rattle.tokens.proofs.DecimalLaws.{value_laws}
use Rattle.tokens.proofs.decimals.value.Goals as goal

pub returns-then-n-ge-OVER : goal.returns-then-n-ge-OVER
returns-then-n-ge-OVER c = search (value_laws, rules)

pub loop-b-preserved : goal.loop-b-preserved
loop-b-preserved c = search (value_laws, rules)

pub returns : goal.returns
returns c = search (value_laws, rules)
