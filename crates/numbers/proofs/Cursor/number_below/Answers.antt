use Rattle.std.proofs.Common.{rules}
use Rattle.numbers.proofs.Cursor.number_below.Goals as goal
use Rattle.refusals.proofs.Handing.{handed_on}
use Rattle.numbers.proofs.Reading.{number_laws, below-stops}

pub returns-in_err-n : goal.returns-in_err-n
returns-in_err-n c = handed_on c.from_residual.ensures.1 (below-stops _ _ c.number.ensures c.in_err-n.was _)

pub returns-then-limit-n : goal.returns-then-limit-n
returns-then-limit-n c = search (number_laws, rules)

pub returns : goal.returns
returns c = search (number_laws, rules)
