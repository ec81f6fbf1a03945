use Rattle.meirhuppa.proofs.text_jobs.given_back.Goals as goal
use Rattle.meirhuppa.proofs.TextAnswers.{made-answer, text_refused_answer}

pub returns-in-Ok : goal.returns-in-Ok
returns-in-Ok c = made-answer c.in-Ok.is c.written.ensures

pub returns-in-Err : goal.returns-in-Err
returns-in-Err c = text_refused_answer c.in-Err.is c.code.ensures c.refused.ensures
