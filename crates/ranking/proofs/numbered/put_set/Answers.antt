use Rattle.ranking.proofs.SetLaws.{set_laws}
use Rattle.std.proofs.Common.{rules}
use Rattle.ranking.proofs.numbered.put_set.Goals as goal

pub put_number-first-requires : goal.put_number-first-requires
put_number-first-requires c = search (set_laws, rules)

pub put_members-requires : goal.put_members-requires
put_members-requires c = search (set_laws, rules)

pub returns : goal.returns
returns c = search (set_laws, rules)
