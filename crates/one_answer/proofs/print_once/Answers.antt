use Rattle.one_answer.proofs.Answering.{text-only}
use Rattle.one_answer.proofs.print_once.Goals as goal

pub returns : goal.returns
returns c = text-only c.meirhuppa_print.ensures
