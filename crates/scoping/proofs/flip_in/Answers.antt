use Rattle.std.proofs.Common.{rules, refl}
use Rattle.refusals.proofs.Handing.{handed_on}
use Rattle.scoping.proofs.flip_in.Goals as goal
use Rattle.scoping.proofs.Changing.{laws, change-short}

pub measure-requires : goal.measure-requires
measure-requires c = search (laws, rules)

pub returns-in_err-t : goal.returns-in_err-t
returns-in_err-t c = rw (handed_on c.from_residual.ensures.1 refl) (change-short c.measure.ensures c.charge.ensures c.requires.0 c.in_err-t.was)

pub flip_scope-m-requires : goal.flip_scope-m-requires
flip_scope-m-requires c = search (laws, rules, c.in_ok-t.was)

pub returns : goal.returns
returns c = search (laws, rules, c.in_ok-t.was)
