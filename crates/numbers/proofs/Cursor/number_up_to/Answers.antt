use Rattle.std.proofs.Common.{rules}
use Rattle.numbers.proofs.Cursor.number_up_to.Goals as goal
use Rattle.refusals.proofs.Handing.{handed_on}
use Rattle.numbers.proofs.Reading.{number_laws, up_to-no, up_to-stops}

pub returns-in_err-n : goal.returns-in_err-n
returns-in_err-n c = handed_on c.from_residual.ensures.1 (up_to-stops _ _ c.number.ensures c.in_err-n.was _ _)

pub returns-then-most-n : goal.returns-then-most-n
returns-then-most-n c = up_to-no _ _ c.number.ensures c.in_ok-n.was _ _ c.if-most-n.true

pub returns : goal.returns
returns c = search (number_laws, rules)
