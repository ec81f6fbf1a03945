use Rattle.std.proofs.Common.{rules, refl}
use Rattle.refusals.proofs.Handing.{handed_on}
use Rattle.applying.proofs.substituted.Goals as goal
use Rattle.applying.proofs.Functions.{functions, function_stops}

pub returns-in_err-t : goal.returns-in_err-t
returns-in_err-t c = rw (handed_on c.from_residual.ensures.1 refl) (function_stops c.charge.ensures c.in_err-t.was)

pub substitute-m-requires : goal.substitute-m-requires
substitute-m-requires c = search (functions, rules, c.in_ok-t.was)

pub measure-requires : goal.measure-requires
measure-requires c = search (functions, rules, c.in_ok-t.was)

pub returns-then-measure-gt-MOST_NESTING : goal.returns-then-measure-gt-MOST_NESTING
returns-then-measure-gt-MOST_NESTING c = search (functions, rules, c.in_ok-t.was)

pub returns : goal.returns
returns c = search (functions, rules, c.in_ok-t.was)
