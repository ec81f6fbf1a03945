use Prim.Native.Nat.{◌-◌}
use Rattle.text_printer.proofs.FrontLaws.{Leaping}
use Rattle.text_printer.proofs.fronts.skip_numbers.Given as goal

abbrev pub invariant-loop : goal.invariant-loop
invariant-loop l = Leaping l.image l.at l.count l.here (l.count - l.counter)
