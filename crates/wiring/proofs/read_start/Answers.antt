use Rattle.refusals.proofs.Handing.{handed_on}
use Rattle.wiring.proofs.Programs.{start-stops, start-large, start_read}
use Rattle.wiring.proofs.read_start.Goals as goal

pub returns-in_err-t : goal.returns-in_err-t
returns-in_err-t c = handed_on c.from_residual.ensures.1 (start-stops _ _ c.read_token.ensures c.in_err-t.was)

pub returns-then-t-gt1 : goal.returns-then-t-gt1
returns-then-t-gt1 c = start-large _ _ c.read_token.ensures c.in_ok-t.was c.if-t-gt1.true

pub returns : goal.returns
returns c = start_read _ _ c.read_token.ensures c.in_ok-t.was c.if-t-gt1.false
