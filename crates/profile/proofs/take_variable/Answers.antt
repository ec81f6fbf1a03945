use Rattle.std.proofs.Common.{rules}
use Rattle.refusals.proofs.Handing.{handed_on}
use Rattle.roots.proofs.Trees.{name-inside}
use Rattle.profile.proofs.take_variable.Goals as goal
use Rattle.profile.proofs.Taking.{variable-stops, variable-unowned, variable-taken, variable-refused}

pub returns-in_err-n : goal.returns-in_err-n
returns-in_err-n c = handed_on c.from_residual.ensures.1 (variable-stops _ _ _ _ _ c.number_below.ensures c.in_err-n.was)

pub bounds-around-n : goal.bounds-around-n
bounds-around-n c = search (name-inside, rules, c.in_ok-n.was)

pub returns-then-takes_variable : goal.returns-then-takes_variable
returns-then-takes_variable c = search (variable-taken, rules, c.in_ok-n.was)

pub returns-else-around-n-ne0 : goal.returns-else-around-n-ne0
returns-else-around-n-ne0 c = search (variable-unowned, variable-refused, rules, c.in_ok-n.was)
