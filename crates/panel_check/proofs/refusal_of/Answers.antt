use Rattle.std.proofs.Common.{rules}
use Rattle.panel_check.proofs.refusal_of.Goals as goal
use Rattle.panel_check.proofs.Checking.{judged-outside, judged-fault}

pub returns-in-Ok : goal.returns-in-Ok
returns-in-Ok c = search (judged-outside, rules, c.in-Ok.is)

pub returns-in-Err : goal.returns-in-Err
returns-in-Err c = search (judged-fault, rules, c.in-Err.is)
