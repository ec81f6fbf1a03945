use Rattle.std.proofs.Common.{rules}
use Rattle.scoping.proofs.put.Goals as goal
use Rattle.scoping.proofs.Fresh.{laws}

pub returns-then-s : goal.returns-then-s
returns-then-s c = search (laws, rules)

pub returns : goal.returns
returns c = search (laws, rules)
