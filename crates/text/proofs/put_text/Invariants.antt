use Rattle.text.proofs.put_text.Given as goal
use Rattle.text.proofs.Placing.{Texting}

abbrev pub invariant-loop-byte : goal.invariant-loop-byte
invariant-loop-byte l = Texting l.initial.out l.at l.text l.out l.to l.byte-index
