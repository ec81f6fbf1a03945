use Rattle.recordings.proofs.Checking.{CheckingChanges}
use Rattle.recordings.proofs.check_changes.Given as goal

abbrev pub invariant-loop : goal.invariant-loop
invariant-loop l = CheckingChanges l.c.at l.s l.marks l.count l.before l.here.at l.counter l.least l.driven
