use Rattle.std.proofs.Common.{◌-◌}
use Rattle.numbers.proofs.put_number.Given as goal
use Rattle.numbers.proofs.Writing.{Put}

abbrev pub invariant-loop-v : goal.invariant-loop-v
invariant-loop-v l = Put l.initial.out l.at l.n l.out l.i l.v

abbrev pub decreases-loop-v : goal.decreases-loop-v
decreases-loop-v l = l.v - 127
