use Rattle.std.proofs.Common.{rules, refl}
use Rattle.refusals.proofs.Handing.{handed_on}
use Rattle.scoping.proofs.mark_form.Goals as goal
use Rattle.scoping.proofs.Fresh.{laws, mark_no_use, mark_no_intro}

pub returns-in_err-t : goal.returns-in_err-t
returns-in_err-t c = rw (handed_on c.from_residual.ensures.1 refl) (mark_no_use _ c.fresh_scope.ensures c.in_err-t.was)

pub returns-in_err-u : goal.returns-in_err-u
returns-in_err-u c = rw (handed_on c.from_residual-in_err-u.ensures.1 refl) (mark_no_intro _ c.fresh_scope.ensures c.in_ok-t.was c.fresh_scope-2.ensures c.in_err-u.was)

pub mark_by-requires : goal.mark_by-requires
mark_by-requires c = search (laws, rules, c.in_ok-t.was, c.in_ok-u.was)

pub returns : goal.returns
returns c = search (laws, rules, c.in_ok-t.was, c.in_ok-u.was)
