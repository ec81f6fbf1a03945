use Rattle.scan_runner.proofs.Ending.{job_standing}
use Rattle.scan_runner.proofs.Preparing.{marks-kept}
use Rattle.scan.proofs.lines.print.Goals as goal

pub print_prepared-requires-clause-stands : goal.print_prepared-requires-clause-stands
print_prepared-requires-clause-stands c =
    job_standing c.prepare.ensures c.in-Ok.is (marks-kept c.prepare.new.marks c.requires.clear.0 c.prepare.auto.marks) c.requires.room.2
