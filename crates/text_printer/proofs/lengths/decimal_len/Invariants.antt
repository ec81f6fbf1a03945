use Rattle.text_printer.proofs.AtomLaws.{Digits}
use Rattle.text_printer.proofs.lengths.decimal_len.Given as goal

abbrev pub invariant-loop-v : goal.invariant-loop-v
invariant-loop-v l = Digits l.n l.v l.len

abbrev pub decreases-loop-v : goal.decreases-loop-v
decreases-loop-v l = l.v
