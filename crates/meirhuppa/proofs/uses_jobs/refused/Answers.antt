use Rattle.meirhuppa.proofs.uses_jobs.refused.Goals as goal
use Rattle.meirhuppa.proofs.UsesAnswers.{refused-code}

pub returns : goal.returns
returns c = refused-code c.code.ensures c.refused.ensures
