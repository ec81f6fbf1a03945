use Rattle.std.proofs.Common.{rules}
use Rattle.asking.proofs.naming.stop_one.Goals as goal
use Rattle.asking.proofs.Stopping.{one_laws}

pub name_of-requires : goal.name_of-requires
name_of-requires c = search (one_laws, rules)

pub stop_named-requires : goal.stop_named-requires
stop_named-requires c = search (one_laws, rules)

pub returns-in-Unnamed : goal.returns-in-Unnamed
returns-in-Unnamed c = search (one_laws, rules)

pub returns-in-Unclear : goal.returns-in-Unclear
returns-in-Unclear c = search (one_laws, rules)

pub returns-in-Named : goal.returns-in-Named
returns-in-Named c = search (one_laws, rules)
