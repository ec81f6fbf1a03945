use Rattle.std.proofs.Common.{◌≡◌}
use Rattle.table.proofs.put_set.Given as goal
use Rattle.table.proofs.Laws.{puts}

abbrev pub invariant-loop-k : goal.invariant-loop-k
invariant-loop-k l = l.table ≡ puts l.k l.initial.table l.at l.set.words
