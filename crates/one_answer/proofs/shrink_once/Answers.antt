use Rattle.one_answer.proofs.Answering.{shrink_only}
use Rattle.one_answer.proofs.shrink_once.Goals as goal

pub returns : goal.returns
returns c = shrink_only c.meirhuppa_shrink.ensures
