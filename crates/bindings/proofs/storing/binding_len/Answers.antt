use Rattle.std.proofs.Common.{rules}
use Rattle.bindings.proofs.storing.binding_len.Goals as goal
use Rattle.bindings.proofs.Lengths.{storing_laws}

pub overflow_add-result : goal.overflow_add-result
overflow_add-result c = search (storing_laws, rules)

pub overflow_add-result-2 : goal.overflow_add-result-2
overflow_add-result-2 c = search (storing_laws, rules)

pub returns : goal.returns
returns c = search (storing_laws, rules)
