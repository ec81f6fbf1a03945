use Rattle.std.proofs.Common.{rules}
use Rattle.things.proofs.make_function.Goals as goal
use Rattle.things.proofs.Making.{laws}

pub returns : goal.returns
returns c = search (laws, rules)
