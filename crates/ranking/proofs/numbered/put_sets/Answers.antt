use Rattle.ranking.proofs.SetLaws.{sets-third, sets_laws}
use Rattle.std.proofs.Common.{rules}
use Rattle.ranking.proofs.numbered.put_sets.Goals as goal

pub put_set-second-requires : goal.put_set-second-requires
put_set-second-requires c = search (sets_laws, rules)

pub put_set-third-requires : goal.put_set-third-requires
put_set-third-requires c = search (sets_laws, rules)

pub put_set-requires : goal.put_set-requires
put_set-requires c = sets-third _ _ _ c.requires c.put_set-second.ensures c.put_set-third.ensures

pub returns : goal.returns
returns c = search (sets_laws, rules)
