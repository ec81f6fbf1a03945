use Rattle.roots.proofs.measure_variable.Goals as goal
use Rattle.refusals.proofs.Handing.{handed_on}
use Rattle.roots.proofs.Trees.{variable-stops, variable-read, name-inside}

pub returns-in_err-n : goal.returns-in_err-n
returns-in_err-n c = handed_on c.from_residual.ensures.1 (variable-stops _ _ _ _ c.number_below.ensures c.in_err-n.was)

pub bounds-around-i : goal.bounds-around-i
bounds-around-i c = name-inside _ _ _ _ c.number_below.ensures c.in_ok-n.was c.requires.1

pub returns : goal.returns
returns c = variable-read _ _ _ _ c.number_below.ensures c.in_ok-n.was
