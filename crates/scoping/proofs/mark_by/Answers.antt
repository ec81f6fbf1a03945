use Rattle.std.proofs.Common.{rules, refl}
use Rattle.refusals.proofs.Handing.{handed_on}
use Rattle.scoping.proofs.mark_by.Goals as goal
use Rattle.scoping.proofs.Fresh.{laws, mark_use_refused, mark_intro_refused}

pub returns-in_err-o : goal.returns-in_err-o
returns-in_err-o c = rw (handed_on c.from_residual.ensures.1 refl) (mark_use_refused _ _ _ c.add_to.ensures c.in_err-o.was)

pub flip_in-requires : goal.flip_in-requires
flip_in-requires c = search (laws, rules, c.in_ok-o.was)

pub returns-in_err-p : goal.returns-in_err-p
returns-in_err-p c = rw (handed_on c.from_residual-in_err-p.ensures.1 refl) (mark_intro_refused _ _ _ c.add_to.ensures c.in_ok-o.was c.flip_in.ensures c.in_err-p.was)

pub returns : goal.returns
returns c = search (laws, rules, c.in_ok-o.was, c.in_ok-p.was)
