use Rattle.std.proofs.Common.{rules}
use Rattle.things.proofs.measure_list.Goals as goal
use Rattle.things.proofs.Measuring.{laws}

pub overflow_add-result : goal.overflow_add-result
overflow_add-result c = search (laws, rules)
