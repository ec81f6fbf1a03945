use Rattle.std.proofs.Common.{refl}
use Rattle.refusals.proofs.Handing.{handed_on}
use Rattle.asking.proofs.flipped.Goals as goal
use Rattle.asking.proofs.Pieces.{flip-refused, flip-done}

pub returns-in_err-o : goal.returns-in_err-o
returns-in_err-o c = rw (handed_on c.from_residual.ensures.1 refl) (flip-refused c.flip_in.ensures c.in_err-o.was)

pub returns : goal.returns
returns c = flip-done c.flip_in.ensures c.in_ok-o.was
