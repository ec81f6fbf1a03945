use Rattle.std.proofs.Common.{rules}
use Rattle.scoping.proofs.key.Goals as goal
use Rattle.scoping.proofs.Fresh.{laws}

pub returns : goal.returns
returns c = search (laws, rules)
