use Rattle.std.proofs.Common.{◌-◌}
use Rattle.words.proofs.is_old.Given as goal
use Rattle.words.proofs.Section.{Seeking}

abbrev pub invariant-loop : goal.invariant-loop
invariant-loop l = Seeking l.section l.k l.w l.at (l.k - l.counter)
