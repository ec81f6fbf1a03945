use Rattle.finish.proofs.Heads.{Copied}
use Rattle.finish.proofs.heading.copy.Given as goal

abbrev pub invariant-loop-i : goal.invariant-loop-i
invariant-loop-i l = Copied l.image l.initial.out l.from l.to l.out l.i
