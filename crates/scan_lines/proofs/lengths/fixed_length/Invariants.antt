use Rattle.scan_lines.proofs.Counting.{Counting}
use Rattle.scan_lines.proofs.lengths.fixed_length.Given as goal

abbrev pub invariant-loop-point : goal.invariant-loop-point
invariant-loop-point l = Counting l.marks l.n l.point
