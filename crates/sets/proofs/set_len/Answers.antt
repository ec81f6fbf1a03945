use Rattle.std.proofs.Common.{rules}
use Rattle.sets.proofs.set_len.Goals as goal
use native.Mathlib.Omega.{arith}
use Rattle.numbers.proofs.Writing.{num-short}
use Rattle.sets.proofs.Writing.{set_writing}

pub overflow_add-result : goal.overflow_add-result
overflow_add-result c = omega (arith, num-short c.count-count.result)

pub overflow_add-result-2 : goal.overflow_add-result-2
overflow_add-result-2 c = omega (arith, num-short c.count-count.result)

pub returns : goal.returns
returns c = search (set_writing, rules)
