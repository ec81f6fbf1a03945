use Rattle.std.proofs.Common.{rules}
use Rattle.copying.proofs.put_copy.Goals as goal
use Rattle.copying.proofs.Working.{laws}

pub returns-in-Strip : goal.returns-in-Strip
returns-in-Strip c = search (laws, rules)

pub returns-in_default : goal.returns-in_default
returns-in_default c = search (laws, rules)
