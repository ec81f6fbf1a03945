use Rattle.text.proofs.put_hexadecimal.Given as goal
use Rattle.text.proofs.Hexadecimal.{Spelling}

abbrev pub invariant-loop-b : goal.invariant-loop-b
invariant-loop-b l = Spelling l.initial.out l.at l.bytes l.out l.to l.b-index
