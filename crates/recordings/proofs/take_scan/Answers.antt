use Rattle.std.proofs.Common.{rules}
use Rattle.numbers.proofs.Answering.{answering}
use Rattle.recordings.proofs.Taking.{scan_no_fault, scan-readable, scan-taken}
use Rattle.recordings.proofs.take_scan.Goals as goal

pub returns-in_default : goal.returns-in_default
returns-in_default c = scan_no_fault _ _ c.number.ensures c.requires.2 c.in_default.is

pub after-requires : goal.after-requires
after-requires c = search (answering, rules, c.in-Ok.is)

pub take_changes-requires : goal.take_changes-requires
take_changes-requires c = search (answering, scan-readable, rules, c.in-Ok.is)

pub returns : goal.returns
returns c = scan-taken _ _ c.number.ensures c.requires.2 c.in-Ok.is c.after.ensures c.take_changes.ensures
