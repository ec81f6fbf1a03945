use Rattle.one_answer.proofs.Answering.{once}
use Rattle.one_answer.proofs.evaluate_once.Goals as goal

pub returns : goal.returns
returns c = once c.meirhuppa_evaluate.ensures
