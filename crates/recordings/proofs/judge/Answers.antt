use Rattle.refusals.proofs.Handing.{handed_on}
use Rattle.recordings.proofs.Judged.{judged-long, judged-nothing, judged-count}
use Rattle.recordings.proofs.judge.Goals as goal

pub returns-then-recording-gt-MOST_IMAGE : goal.returns-then-recording-gt-MOST_IMAGE
returns-then-recording-gt-MOST_IMAGE c = judged-long _ _ c.if-recording-gt-MOST_IMAGE.true

pub returns-in_err-count : goal.returns-in_err-count
returns-in_err-count c = handed_on c.from_residual.ensures.1 (judged-nothing _ _ c.if-recording-gt-MOST_IMAGE.false c.number.ensures c.in_err-count.was)

pub returns : goal.returns
returns c = judged-count _ _ c.if-recording-gt-MOST_IMAGE.false c.number.ensures c.in_ok-count.was c.after.ensures c.judge_scans.ensures
