use Rattle.std.proofs.Common.{rules}
use Rattle.ladder.proofs.take.Goals as goal
use Rattle.ladder.proofs.ByTest.{join_laws}

pub returns-in-0 : goal.returns-in-0
returns-in-0 c = search (join_laws, rules)

pub returns-in-1 : goal.returns-in-1
returns-in-1 c = search (join_laws, rules)

pub returns-in_default : goal.returns-in_default
returns-in_default c = search (join_laws, rules)
