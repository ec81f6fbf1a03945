use Rattle.std.proofs.Common.{rules, refl}
use Rattle.refusals.proofs.Handing.{handed_on}
use Rattle.parse.proofs.data.Goals as goal
use Rattle.parse.proofs.Laws.{laws, data-short}

pub returns-in_err-t : goal.returns-in_err-t
returns-in_err-t c = rw (handed_on c.from_residual.ensures.1 refl) (data-short _ c.measure.ensures c.charge.ensures c.requires c.in_err-t.was)

pub strip-m-requires : goal.strip-m-requires
strip-m-requires c = search (laws, rules, c.in_ok-t.was)

pub returns : goal.returns
returns c = search (laws, rules, c.in_ok-t.was)
