use Rattle.std.proofs.Common.{rules}
use Rattle.expander.proofs.Jobs.{line_laws}
use Rattle.expander.proofs.line.parsed.Goals as goal

pub overflow_add-result : goal.overflow_add-result
overflow_add-result c = search (line_laws, rules)

pub returns : goal.returns
returns c = search (line_laws, rules)
