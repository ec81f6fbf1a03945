use Rattle.std.proofs.Common.{rules}
use Rattle.ladder.proofs.operate.Goals as goal
use Rattle.ladder.proofs.ByTest.{join_laws}

pub returns-in-8 : goal.returns-in-8
returns-in-8 c = search (join_laws, rules)

pub returns-in_default : goal.returns-in_default
returns-in_default c = search (join_laws, rules)
