use Rattle.std.proofs.Common.{rules}
use Rattle.parse.proofs.syntax_value.Goals as goal
use Rattle.parse.proofs.Laws.{laws}

pub returns-in_default : goal.returns-in_default
returns-in_default c = search (laws, rules)

pub returns : goal.returns
returns c = search (laws, rules)
