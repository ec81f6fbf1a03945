use Rattle.ranking.proofs.RankLaws.{fill_laws}
use Rattle.std.proofs.Common.{rules}
use Rattle.ranking.proofs.ranks.fill.Goals as goal
use Rattle.ranking.proofs.ranks.fill.Goals.{then-has, else-has}

pub loop-k-init : goal.loop-k-init
loop-k-init c = search (fill_laws, rules)

pub has-requires : goal.has-requires
has-requires c = search (fill_laws, rules)

pub loop-k-preserved : goal.loop-k-preserved
loop-k-preserved c = elim c.if-has.branch [
  | then-has w ↦ rw w.n-is (search (fill_laws, rules))
  | else-has w ↦ rw w.n-is (search (fill_laws, rules))
]
