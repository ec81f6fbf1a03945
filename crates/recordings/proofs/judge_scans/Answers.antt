use Rattle.refusals.proofs.Handing.{handed_on}
use Rattle.recordings.proofs.Judged.{judged-fault, judged-longer, judged-driven, judged-kept}
use Rattle.recordings.proofs.judge_scans.Goals as goal

pub returns-in_err-driven : goal.returns-in_err-driven
returns-in_err-driven c = handed_on c.from_residual.ensures.1 (judged-fault _ _ _ _ c.check_scans.ensures c.in_err-driven.was)

pub returns-then-past-c : goal.returns-then-past-c
returns-then-past-c c = judged-longer _ _ _ _ c.check_scans.ensures c.in_ok-driven.was c.if-past-c.true

pub returns-then-driven : goal.returns-then-driven
returns-then-driven c = judged-driven _ _ _ _ c.check_scans.ensures c.in_ok-driven.was c.if-past-c.false c.if-driven.true

pub returns : goal.returns
returns c = judged-kept _ _ _ _ c.check_scans.ensures c.in_ok-driven.was c.if-past-c.false c.if-driven.false
