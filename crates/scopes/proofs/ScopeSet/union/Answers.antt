use Rattle.std.proofs.Common.{rules}
use Rattle.scopes.proofs.ScopeSet.union.Goals as goal
use Rattle.scopes.proofs.Ops.{union-all, of_fits}

pub returns : goal.returns
returns c = search (union-all, of_fits, rules)
