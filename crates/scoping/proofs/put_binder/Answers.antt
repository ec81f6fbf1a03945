use Rattle.std.proofs.Common.{refl}
use Rattle.refusals.proofs.Handing.{handed_on}
use Rattle.scoping.proofs.put_binder.Goals as goal
use Rattle.scoping.proofs.Fresh.{put_binder_refused, put_binder_done}

pub returns-in_err-state : goal.returns-in_err-state
returns-in_err-state c = rw (handed_on c.from_residual.ensures.1 refl) (put_binder_refused c.put.ensures c.in_err-state.was)

pub returns : goal.returns
returns c = put_binder_done c.put.ensures c.in_ok-state.was
