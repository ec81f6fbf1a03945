use Rattle.std.proofs.Common.{rules}
use Rattle.expand.proofs.Making.{laws}
use Rattle.expand.proofs.lists.relist.Goals as goal

pub returns : goal.returns
returns c = search (laws, rules)
