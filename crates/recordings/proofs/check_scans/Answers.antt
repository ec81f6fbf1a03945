use Rattle.refusals.proofs.Handing.{handed_on}
use Rattle.recordings.proofs.Checking.{scans_stop, scans_on, scans-end}
use Rattle.recordings.proofs.check_scans.Goals as goal

pub returns-in_err-driven : goal.returns-in_err-driven
returns-in_err-driven c = handed_on c.from_residual.ensures.1 (scans_stop c.loop.invariant c.after.ensures c.loop-test.true c.check_scan.ensures c.in_err-driven.was)

pub loop-preserved : goal.loop-preserved
loop-preserved c = scans_on c.loop.invariant c.after.ensures c.loop-test.true c.check_scan.ensures c.in_ok-driven.was

pub returns : goal.returns
returns c = scans-end c.loop.invariant c.loop-test.false
