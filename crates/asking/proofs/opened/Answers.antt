use Rattle.std.proofs.Common.{rules, refl}
use Rattle.refusals.proofs.Handing.{handed_on}
use Rattle.asking.proofs.opened.Goals as goal
use Rattle.asking.proofs.Pieces.{opened_laws, opened-refused}

pub returns-in_err-t : goal.returns-in_err-t
returns-in_err-t c = rw (handed_on c.from_residual.ensures.1 refl) (opened-refused c.charge.ensures c.in_err-t.was)

pub open-requires : goal.open-requires
open-requires c = search (opened_laws, rules, c.in_ok-t.was)

pub returns : goal.returns
returns c = search (opened_laws, rules, c.in_ok-t.was)
