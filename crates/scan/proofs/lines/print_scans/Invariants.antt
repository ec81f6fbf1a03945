use Rattle.scan.proofs.Printing.{Waiting}
use Rattle.scan.proofs.lines.print_scans.Given as goal

abbrev pub invariant-loop-done : goal.invariant-loop-done
invariant-loop-done g l = Waiting l.recording l.scans l.code l.places l.initial.points l.initial.bits l.initial.line l.here.at l.done l.points l.bits l.line
