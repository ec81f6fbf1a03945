use Rattle.std.proofs.Common.{rules}
use Rattle.refusals.proofs.Handing.{handed_on}
use Rattle.numbers.proofs.Answering.{answering}
use Rattle.recordings.proofs.Checking.{scan-stops, scan-goes}
use Rattle.recordings.proofs.check_scan.Goals as goal

pub returns-in_err-count : goal.returns-in_err-count
returns-in_err-count c = handed_on c.from_residual.ensures.1 (scan-stops _ _ _ _ c.number.ensures c.in_err-count.was)

pub after-requires : goal.after-requires
after-requires c = search (answering, rules, c.in_ok-count.was)

pub returns : goal.returns
returns c = scan-goes _ _ _ _ c.number.ensures c.in_ok-count.was c.after.ensures c.check_changes.ensures
