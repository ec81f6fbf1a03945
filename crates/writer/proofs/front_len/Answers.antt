use Rattle.std.proofs.Common.{rules}
use Rattle.writer.proofs.front_len.Goals as goal
use Rattle.writer.proofs.Counting.{laws}

pub overflow_add-result : goal.overflow_add-result
overflow_add-result c = search (laws, rules)

pub returns : goal.returns
returns c = search (laws, rules)
