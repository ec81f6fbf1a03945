use Rattle.refusals.proofs.Handing.{handed_on}
use Rattle.places.proofs.Things.{content-stops, content-read}
use Rattle.places.proofs.read_content.Goals as goal

pub returns-in_err-content : goal.returns-in_err-content
returns-in_err-content c = handed_on c.from_residual.ensures.1 (content-stops _ _ c.number.ensures _ c.in_err-content.was)

pub returns : goal.returns
returns c = content-read _ _ c.number.ensures _ c.in_ok-content.was
