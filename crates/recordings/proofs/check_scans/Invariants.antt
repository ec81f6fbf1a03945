use Rattle.recordings.proofs.Checking.{CheckingScans}
use Rattle.recordings.proofs.check_scans.Given as goal

abbrev pub invariant-loop : goal.invariant-loop
invariant-loop l = CheckingScans l.c.at l.s l.marks l.count l.here.at l.counter l.driven
