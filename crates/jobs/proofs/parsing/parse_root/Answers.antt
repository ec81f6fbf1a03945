use Rattle.jobs.proofs.Roots.{parse_laws}
use Rattle.std.proofs.Common.{rules}
use Rattle.jobs.proofs.parsing.parse_root.Goals as goal

pub carry_nothing-requires : goal.carry_nothing-requires
carry_nothing-requires c = search (parse_laws, rules)

pub object-b-requires : goal.object-b-requires
object-b-requires c = search (parse_laws, rules)

pub raised-requires : goal.raised-requires
raised-requires c = search (parse_laws, rules)

pub parse-requires : goal.parse-requires
parse-requires c = search (parse_laws, rules)

pub returns : goal.returns
returns c = search (parse_laws, rules)
