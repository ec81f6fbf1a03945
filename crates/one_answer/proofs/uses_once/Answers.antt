use Rattle.one_answer.proofs.Answering.{uses-only}
use Rattle.std.proofs.Common.{rules}
use Rattle.one_answer.proofs.uses_once.Goals as goal

pub returns : goal.returns
returns c = uses-only (search rules)
