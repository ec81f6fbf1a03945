use Rattle.ranking.proofs.KeptLaws.{Keeping}
use Rattle.ranking.proofs.kept.put_kept.Given as goal

abbrev pub invariant-loop-i : goal.invariant-loop-i
invariant-loop-i l = Keeping l.initial.out l.at l.ranks l.store l.marks l.out l.here l.i
