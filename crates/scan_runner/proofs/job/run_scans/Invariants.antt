use Rattle.scan_runner.proofs.Looping.{Going}
use Rattle.scan_runner.proofs.job.run_scans.Given as goal

abbrev pub invariant-loop-done : goal.invariant-loop-done
invariant-loop-done l = Going l.recording l.initial.here.at l.scans l.code l.places l.initial.points l.initial.bits l.initial.out l.here.at l.at l.done l.points l.bits l.out
