use Rattle.one_answer.proofs.Answering.{text-only}
use Rattle.one_answer.proofs.read_once.Goals as goal

pub returns : goal.returns
returns c = text-only c.meirhuppa_read.ensures
