use Rattle.std.proofs.Common.{rules}
use Rattle.wiring.proofs.WordLaws.{others-and, others-or}
use Rattle.wiring.proofs.words.others.Goals as goal

pub returns-in-0 : goal.returns-in-0
returns-in-0 c = others-and _ c.in-0.is

pub returns-in_default : goal.returns-in_default
returns-in_default c = search (others-or, rules)
