use Rattle.finish.proofs.Finishing.{front_laws}
use Rattle.std.proofs.Common.{rules}
use Rattle.finish.proofs.before_root.Goals as goal

pub head_len-head-requires : goal.head_len-head-requires
head_len-head-requires c = search (front_laws, rules)

pub overflow_cast-count : goal.overflow_cast-count
overflow_cast-count c = search (front_laws, rules)

pub bindings_len-all-requires : goal.bindings_len-all-requires
bindings_len-all-requires c = search (front_laws, rules)

pub number_len-requires : goal.number_len-requires
number_len-requires c = search (front_laws, rules)

pub overflow_add-result : goal.overflow_add-result
overflow_add-result c = search (front_laws, rules)

pub overflow_add-result-2 : goal.overflow_add-result-2
overflow_add-result-2 c = search (front_laws, rules)

pub returns : goal.returns
returns c = search (front_laws, rules)
