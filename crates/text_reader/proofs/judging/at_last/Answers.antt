use Rattle.std.proofs.Common.{rules}
use Rattle.text_reader.proofs.JudgeLaws.{last_laws}
use Rattle.text_reader.proofs.judging.at_last.Goals as goal

pub returns-then-depth-gt0 : goal.returns-then-depth-gt0
returns-then-depth-gt0 c = search (last_laws, rules)

pub returns-then-not-begun : goal.returns-then-not-begun
returns-then-not-begun c = search (last_laws, rules)

pub returns : goal.returns
returns c = search (last_laws, rules)
