use Rattle.std.proofs.Common.{refl}
use Rattle.roots.proofs.points.read_point.Goals as goal
use Rattle.refusals.proofs.Handing.{handed_on}
use Rattle.roots.proofs.PointLaws.{point-read, point-refused}

pub returns-in_err-n : goal.returns-in_err-n
returns-in_err-n c = point-refused _ _ c.number_up_to.ensures c.in_err-n.was (handed_on c.from_residual.ensures.1 refl)

pub returns : goal.returns
returns c = point-read _ _ c.number_up_to.ensures c.in_ok-n.was
