use Rattle.ranking.proofs.SetLaws.{bind_laws}
use Rattle.std.proofs.Common.{rules}
use Rattle.ranking.proofs.kept.put_binding.Goals as goal

pub put_number-second-requires : goal.put_number-second-requires
put_number-second-requires c = search (bind_laws, rules)

pub put_number-third-requires : goal.put_number-third-requires
put_number-third-requires c = search (bind_laws, rules)

pub put_set-requires : goal.put_set-requires
put_set-requires c = search (bind_laws, rules)

pub returns : goal.returns
returns c = search (bind_laws, rules)
