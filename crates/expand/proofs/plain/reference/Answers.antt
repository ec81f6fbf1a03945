use Rattle.std.proofs.Common.{rules}
use Rattle.expand.proofs.Leaves.{laws}
use Rattle.expand.proofs.plain.reference.Goals as goal

pub meaning_of-requires : goal.meaning_of-requires
meaning_of-requires c = search (laws, rules)

pub returns-in-Unclear : goal.returns-in-Unclear
returns-in-Unclear c = search (laws, rules)

pub returns-in_default : goal.returns-in_default
returns-in_default c = search (laws, rules)
