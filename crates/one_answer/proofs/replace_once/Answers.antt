use Rattle.one_answer.proofs.Answering.{replace_only}
use Rattle.std.proofs.Common.{rules}
use Rattle.one_answer.proofs.replace_once.Goals as goal

pub returns : goal.returns
returns c = replace_only (search rules)
