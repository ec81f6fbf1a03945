use Rattle.reports.proofs.texts.put_codes.Given as goal
use Rattle.reports.proofs.Lines.{Listing}

abbrev pub invariant-loop-i : goal.invariant-loop-i
invariant-loop-i l = Listing l.initial.out l.counts l.out l.to l.i
