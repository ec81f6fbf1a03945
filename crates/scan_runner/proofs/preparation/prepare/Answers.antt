use Rattle.std.proofs.Common.{rules}
use Rattle.scan_runner.proofs.Preparing.{prepares_handed, check_passed, check_refused, accepted_root, recording_refused, recording_kept}
use Rattle.scan_runner.proofs.preparation.prepare.Goals as goal

pub returns-in_err-program : goal.returns-in_err-program
returns-in_err-program c = prepares_handed c.from_residual.ensures.1 (check_refused c.check.ensures _ _ _ c.in_err-program.was)

pub returns-in_err-scans : goal.returns-in_err-scans
returns-in_err-scans c =
    prepares_handed c.from_residual-in_err-scans.ensures.1
    (recording_refused (check_passed c.check.ensures c.in_ok-program.was) _ c.judge.ensures _ _ c.in_err-scans.was)

pub wire_root-wired-requires : goal.wire_root-wired-requires
wire_root-wired-requires c = (accepted_root (check_passed c.check.ensures c.in_ok-program.was), search rules, search rules)

pub returns : goal.returns
returns c = recording_kept (check_passed c.check.ensures c.in_ok-program.was) _ c.judge.ensures c.in_ok-scans.was c.wire_root-wired.ensures
