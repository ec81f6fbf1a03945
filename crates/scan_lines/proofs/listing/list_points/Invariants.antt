use Rattle.scan_lines.proofs.Driven.{Listing}
use Rattle.scan_lines.proofs.listing.list_points.Given as goal

abbrev pub invariant-loop-point : goal.invariant-loop-point
invariant-loop-point l = Listing l.marks l.initial.places l.places l.n l.point
