use Rattle.head.proofs.read_head.Goals as goal
use Rattle.refusals.proofs.Handing.{handed_on}
use Rattle.head.proofs.Reading.{head-stops, kind-within, head-goes}

pub returns-in_err-c : goal.returns-in_err-c
returns-in_err-c c = handed_on c.from_residual.ensures.1 (head-stops _ _ c.read_kind.ensures c.in_err-c.was)

pub read_after_kind-requires : goal.read_after_kind-requires
read_after_kind-requires c = (c.requires, kind-within _ _ c.read_kind.ensures c.in_ok-c.was)

pub returns : goal.returns
returns c = head-goes _ _ c.read_kind.ensures c.in_ok-c.was c.read_after_kind.ensures
