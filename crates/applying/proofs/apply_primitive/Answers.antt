use Rattle.std.proofs.Common.{rules, refl}
use Rattle.refusals.proofs.Handing.{handed_on}
use Rattle.applying.proofs.apply_primitive.Goals as goal
use Rattle.applying.proofs.Working.{working, primitive-stops}

pub returns-in_err-u : goal.returns-in_err-u
returns-in_err-u c = rw (handed_on c.from_residual.ensures.1 refl) (primitive-stops c.charge.ensures c.in_err-u.was)

pub primitive-requires : goal.primitive-requires
primitive-requires c = search (working, rules, c.in_ok-u.was)

pub returns-in_default : goal.returns-in_default
returns-in_default c = search (working, rules, c.in_ok-u.was)

pub measure-requires : goal.measure-requires
measure-requires c = search (working, rules, c.in_ok-u.was)

pub returns-then-measure-gt-MOST_NESTING : goal.returns-then-measure-gt-MOST_NESTING
returns-then-measure-gt-MOST_NESTING c = search (working, rules, c.in_ok-u.was)

pub returns : goal.returns
returns c = search (working, rules, c.in_ok-u.was)
