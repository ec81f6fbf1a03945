use Rattle.copying.proofs.link_each.Given as goal
use Rattle.copying.proofs.Rows.{Tying}

abbrev pub invariant-loop-last : goal.invariant-loop-last
invariant-loop-last l = Tying l.initial.table l.table l.from l.end l.at l.top l.last

abbrev pub decreases-loop-last : goal.decreases-loop-last
decreases-loop-last l = l.last
