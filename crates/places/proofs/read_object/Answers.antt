use Rattle.refusals.proofs.Handing.{handed_on}
use Rattle.places.proofs.Things.{object-stops, object-read}
use Rattle.places.proofs.read_object.Goals as goal

pub returns-in_err-past : goal.returns-in_err-past
returns-in_err-past c = handed_on c.from_residual.ensures.1 (object-stops _ _ _ c.measure_object.ensures c.in_err-past.was)

pub returns : goal.returns
returns c = object-read _ _ _ c.measure_object.ensures c.in_ok-past.was
