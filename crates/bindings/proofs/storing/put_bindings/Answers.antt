use Rattle.std.proofs.Common.{rules}
use Rattle.bindings.proofs.storing.put_bindings.Goals as goal
use Rattle.bindings.proofs.Lengths.{storing_laws}

pub loop-i-init : goal.loop-i-init
loop-i-init c = search (storing_laws, rules)

pub put_binding-here-requires : goal.put_binding-here-requires
put_binding-here-requires c = search (storing_laws, rules)

pub loop-i-preserved : goal.loop-i-preserved
loop-i-preserved c = search (storing_laws, rules)

pub returns-clause-past : goal.returns-clause-past
returns-clause-past c = search (storing_laws, rules)

pub returns-clause-bytes : goal.returns-clause-bytes
returns-clause-bytes c = search (storing_laws, rules)
