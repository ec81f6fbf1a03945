use Rattle.words.proofs.word_length.Goals as goal
use Rattle.refusals.proofs.Handing.{handed_on}
use Rattle.words.proofs.Section.{length-stops, length_none, length_over, length-is}

pub returns-in_err-n : goal.returns-in_err-n
returns-in_err-n c = handed_on c.from_residual.ensures.1 (length-stops _ _ c.number.ensures c.in_err-n.was)

pub returns-then-n-eq0 : goal.returns-then-n-eq0
returns-then-n-eq0 c = length_none _ _ c.number.ensures c.in_ok-n.was c.if-n-eq0.true

pub returns-then-n-gt-MOST_LENGTH : goal.returns-then-n-gt-MOST_LENGTH
returns-then-n-gt-MOST_LENGTH c = length_over _ _ c.number.ensures c.in_ok-n.was c.if-n-eq0.false c.if-n-gt-MOST_LENGTH.true

pub returns : goal.returns
returns c = length-is _ _ c.number.ensures c.in_ok-n.was c.if-n-eq0.false c.if-n-gt-MOST_LENGTH.false
