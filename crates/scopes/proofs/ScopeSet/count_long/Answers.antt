use Rattle.std.proofs.Common.{rules}
use Rattle.scopes.proofs.ScopeSet.count_long.Goals as goal
use Rattle.scopes.proofs.Counting.{counting_long}
use Rattle.scopes.proofs.Ops.{of_fits}

pub loop-i-init : goal.loop-i-init
loop-i-init c = search (counting_long, of_fits, rules)

pub loop-i-preserved : goal.loop-i-preserved
loop-i-preserved c = search (counting_long, of_fits, rules)
