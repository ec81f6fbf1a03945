use Rattle.meirhuppa.proofs.scan.meirhuppa_scan.Goals as goal
use Rattle.meirhuppa.proofs.ScanAnswers.{scan-printed, scan-refused}

pub returns-in-Ok : goal.returns-in-Ok
returns-in-Ok c = scan-printed _ _ _ c.run_job.ensures c.in-Ok.is c.written.ensures

pub returns-in-Err : goal.returns-in-Err
returns-in-Err c = scan-refused _ _ _ c.run_job.ensures c.in-Err.is c.code.ensures c.refused.ensures
