use Rattle.std.proofs.Common.{rules}
use Rattle.parse.proofs.quote.Goals as goal
use Rattle.parse.proofs.Laws.{laws}

pub data-requires : goal.data-requires
data-requires c = search (laws, rules)

pub returns-in_default : goal.returns-in_default
returns-in_default c = search (laws, rules)

pub returns : goal.returns
returns c = search (laws, rules)
