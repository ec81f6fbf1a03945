use Rattle.std.proofs.Common.{rules}
use Rattle.ladder.proofs.inverse.Goals as goal
use Rattle.ladder.proofs.ByTest.{join_laws}

pub returns-then-values-eq0 : goal.returns-then-values-eq0
returns-then-values-eq0 c = search (join_laws, rules)

pub returns-else-values-eq0 : goal.returns-else-values-eq0
returns-else-values-eq0 c = search (join_laws, rules)
