use Rattle.refusals.proofs.Handing.{handed_on}
use Rattle.recordings.proofs.Changes.{place-stops, place-low, place_read}
use Rattle.recordings.proofs.read_place.Goals as goal

pub returns-in_err-x : goal.returns-in_err-x
returns-in_err-x c = handed_on c.from_residual.ensures.1 (place-stops _ _ _ c.number_up_to.ensures c.in_err-x.was)

pub returns-then-x-least : goal.returns-then-x-least
returns-then-x-least c = place-low _ _ _ c.number_up_to.ensures c.in_ok-x.was c.if-x-least.true

pub returns : goal.returns
returns c = place_read _ _ _ c.number_up_to.ensures c.in_ok-x.was c.if-x-least.false
