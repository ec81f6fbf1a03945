use Rattle.scan_lines.proofs.Showing.{Showing}
use Rattle.scan_lines.proofs.put_points.Given as goal

abbrev pub invariant-loop-place : goal.invariant-loop-place
invariant-loop-place l = Showing l.initial.out l.at l.places l.values l.out l.to l.place-index
