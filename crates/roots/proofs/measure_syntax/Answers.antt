use Rattle.roots.proofs.measure_syntax.Goals as goal
use Rattle.refusals.proofs.Handing.{handed_on}
use Rattle.roots.proofs.Trees.{object-stops, object-read}

pub returns-in_err-size : goal.returns-in_err-size
returns-in_err-size c = handed_on c.from_residual.ensures.1 (object-stops _ _ _ _ _ c.measure_object.ensures c.in_err-size.was)

pub returns : goal.returns
returns c = object-read _ _ _ _ _ c.measure_object.ensures c.in_ok-size.was
