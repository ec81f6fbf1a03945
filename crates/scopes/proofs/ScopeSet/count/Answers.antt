use Rattle.std.proofs.Common.{rules}
use Rattle.scopes.proofs.ScopeSet.count.Goals as goal
use Rattle.scopes.proofs.Counting.{counting_words}
use Rattle.scopes.proofs.Ops.{of_fits}

pub loop-i-init : goal.loop-i-init
loop-i-init c = search (counting_words, of_fits, rules)

pub loop-i-preserved : goal.loop-i-preserved
loop-i-preserved c = search (counting_words, of_fits, rules)

pub returns-clause-value : goal.returns-clause-value
returns-clause-value c = search (counting_words, of_fits, rules)
