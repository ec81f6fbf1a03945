use Rattle.one_answer.proofs.Answering.{summary-only}
use Rattle.std.proofs.Common.{rules}
use Rattle.one_answer.proofs.summary_once.Goals as goal

pub returns : goal.returns
returns c = summary-only (search rules)
