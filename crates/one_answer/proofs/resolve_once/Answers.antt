use Rattle.one_answer.proofs.Answering.{once}
use Rattle.one_answer.proofs.resolve_once.Goals as goal

pub returns : goal.returns
returns c = once c.meirhuppa_resolve.ensures
