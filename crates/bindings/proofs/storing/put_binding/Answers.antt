use Rattle.std.proofs.Common.{rules}
use Rattle.bindings.proofs.storing.put_binding.Goals as goal
use Rattle.bindings.proofs.Lengths.{storing_laws}

pub put_number-second-requires : goal.put_number-second-requires
put_number-second-requires c = search (storing_laws, rules)

pub put_number-third-requires : goal.put_number-third-requires
put_number-third-requires c = search (storing_laws, rules)

pub put_set-requires : goal.put_set-requires
put_set-requires c = search (storing_laws, rules)

pub returns-clause-past : goal.returns-clause-past
returns-clause-past c = search (storing_laws, rules)

pub returns-clause-bytes : goal.returns-clause-bytes
returns-clause-bytes c = search (storing_laws, rules)
