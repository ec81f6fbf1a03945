use Rattle.meirhuppa.proofs.uses_jobs.meirhuppa_replace.Goals as goal
use Rattle.meirhuppa.proofs.UsesAnswers.{replace_made, replace_refused}

pub returns-in-Ok : goal.returns-in-Ok
returns-in-Ok c = replace_made _ _ _ _ _ c.replace.ensures c.in-Ok.is c.written.ensures

pub returns-in-Err : goal.returns-in-Err
returns-in-Err c = replace_refused _ _ _ _ _ c.replace.ensures c.in-Err.is c.refused.ensures
