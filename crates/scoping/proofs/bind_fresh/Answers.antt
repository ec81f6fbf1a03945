use Rattle.std.proofs.Common.{rules, refl}
use Rattle.refusals.proofs.Handing.{handed_on}
use Rattle.scoping.proofs.bind_fresh.Goals as goal
use Rattle.scoping.proofs.Fresh.{laws, fresh-refused}

pub returns-in_err-t : goal.returns-in_err-t
returns-in_err-t c = rw (handed_on c.from_residual.ensures.1 refl) (fresh-refused c.take.ensures c.in_err-t.was)

pub bind-requires : goal.bind-requires
bind-requires c = search (laws, rules, c.in_ok-t.was)

pub returns : goal.returns
returns c = search (laws, rules, c.in_ok-t.was)
