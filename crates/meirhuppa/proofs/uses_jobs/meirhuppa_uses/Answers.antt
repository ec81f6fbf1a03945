use Rattle.meirhuppa.proofs.uses_jobs.meirhuppa_uses.Goals as goal
use Rattle.meirhuppa.proofs.UsesAnswers.{uses-told, uses-refused}

pub returns-in-Ok : goal.returns-in-Ok
returns-in-Ok c = uses-told _ _ _ c.ask.ensures c.in-Ok.is

pub returns-in-Err : goal.returns-in-Err
returns-in-Err c = uses-refused _ _ _ c.ask.ensures c.in-Err.is c.code.ensures
