use Rattle.std.proofs.Common.{rules}
use Rattle.parse.proofs.variable.Goals as goal
use Rattle.parse.proofs.Laws.{laws}

pub name_of-requires : goal.name_of-requires
name_of-requires c = search (laws, rules)

pub make-m-requires : goal.make-m-requires
make-m-requires c = search (laws, rules)

pub returns-in-Unnamed : goal.returns-in-Unnamed
returns-in-Unnamed c = search (laws, rules)

pub returns-in-Unclear : goal.returns-in-Unclear
returns-in-Unclear c = search (laws, rules)

pub returns-in-Named : goal.returns-in-Named
returns-in-Named c = search (laws, rules)
