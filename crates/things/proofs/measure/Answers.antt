use Rattle.std.proofs.Common.{rules}
use Rattle.things.proofs.measure.Goals as goal
use Rattle.things.proofs.Measuring.{laws, either-seen, either_measured, atom_measured, flat_measured}
use native.Mathlib.Omega.{arith}

pub measure_parts-m-requires : goal.measure_parts-m-requires
measure_parts-m-requires c = search (laws, rules)

pub sum-requires : goal.sum-requires
sum-requires c = search (laws, rules)

pub overflow_add-result : goal.overflow_add-result
overflow_add-result c = search (laws, rules)

pub measure_list-requires : goal.measure_list-requires
measure_list-requires c = either-seen c.get_node-n.ensures c.requires c.in-7.is

pub sum-requires-in-8 : goal.sum-requires-in-8
sum-requires-in-8 c = search (laws, rules)

pub overflow_add-result-in-8 : goal.overflow_add-result-in-8
overflow_add-result-in-8 c = search (laws, rules)

pub returns-in-5 : goal.returns-in-5
returns-in-5 c = search (laws, rules)

pub returns-in-7 : goal.returns-in-7
returns-in-7 c = either_measured c.get_node-n.ensures c.in-7.is c.measure_list.ensures

pub returns-in-8 : goal.returns-in-8
returns-in-8 c = search (laws, rules)

pub returns-in-0-to-4 : goal.returns-in-0-to-4
returns-in-0-to-4 c = atom_measured c.get_node-n.ensures (omega arith)

pub returns-in_default : goal.returns-in_default
returns-in_default c = flat_measured c.get_node-n.ensures (omega arith) (λ e. grind arith) (λ e. grind arith) (λ e. grind arith) (λ e. grind arith)
