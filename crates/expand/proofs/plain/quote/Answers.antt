use Rattle.std.proofs.Common.{rules}
use Rattle.expand.proofs.Leaves.{laws}
use Rattle.expand.proofs.plain.quote.Goals as goal

pub returns-in-Some : goal.returns-in-Some
returns-in-Some c = search (laws, rules)

pub returns-in-None : goal.returns-in-None
returns-in-None c = search (laws, rules)
