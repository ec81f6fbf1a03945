use Rattle.std.proofs.Common.{rules}
use Rattle.scoping.proofs.fresh_scope.Goals as goal
use Rattle.scoping.proofs.Fresh.{laws}

pub returns-then-s-ge-MOST : goal.returns-then-s-ge-MOST
returns-then-s-ge-MOST c = search (laws, rules)

pub returns : goal.returns
returns c = search (laws, rules)
