use Rattle.text_printer.proofs.FrontLaws.{Passing}
use Rattle.text_printer.proofs.fronts.skip_number.Given as goal

abbrev pub invariant-loop-i : goal.invariant-loop-i
invariant-loop-i l = Passing l.image l.at l.i
