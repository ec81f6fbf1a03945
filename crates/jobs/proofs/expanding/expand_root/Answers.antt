use Rattle.jobs.proofs.Roots.{expand_laws}
use Rattle.std.proofs.Common.{rules}
use Rattle.jobs.proofs.expanding.expand_root.Goals as goal

pub carry_nothing-requires : goal.carry_nothing-requires
carry_nothing-requires c = search (expand_laws, rules)

pub object-b-requires : goal.object-b-requires
object-b-requires c = search (expand_laws, rules)

pub raised-requires : goal.raised-requires
raised-requires c = search (expand_laws, rules)

pub expand-requires : goal.expand-requires
expand-requires c = search (expand_laws, rules)

pub returns-clause-worked : goal.returns-clause-worked
returns-clause-worked c = search (expand_laws, rules)

pub returns-clause-few_bindings : goal.returns-clause-few_bindings
returns-clause-few_bindings c = search (expand_laws, rules)
