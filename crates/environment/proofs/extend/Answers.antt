use Rattle.std.proofs.Common.{rules}
use Rattle.environment.proofs.extend.Goals as goal
use Rattle.environment.proofs.Laws.{laws}

pub returns : goal.returns
returns c = search (laws, rules)
