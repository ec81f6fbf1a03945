use Rattle.std.proofs.Common.{rules}
use Rattle.scopes.proofs.ScopeSet.prune.Goals as goal
use Rattle.scopes.proofs.Ops.{prune-all, pruned_more, of_fits}

pub loop-i-preserved : goal.loop-i-preserved
loop-i-preserved c = search (pruned_more, of_fits, rules)

pub returns : goal.returns
returns c = search (prune-all, of_fits, rules)
