use Rattle.std.proofs.Common.{rules}
use Rattle.ladder.proofs.series.Goals as goal
use Rattle.ladder.proofs.ByTest.{join_laws}

pub returns-then-v-eq0 : goal.returns-then-v-eq0
returns-then-v-eq0 c = search (join_laws, rules)

pub returns-else-v-eq0 : goal.returns-else-v-eq0
returns-else-v-eq0 c = search (join_laws, rules)
