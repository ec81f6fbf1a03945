use Rattle.std.proofs.Common.{rules}
use Rattle.reports.proofs.texts.put_code.Goals as goal
use Rattle.reports.proofs.Lines.{line_laws}

pub returns-then-count-eq0-clause-bytes : goal.returns-then-count-eq0-clause-bytes
returns-then-count-eq0-clause-bytes c = search (line_laws, rules)

pub returns-clause-bytes : goal.returns-clause-bytes
returns-clause-bytes c = search (line_laws, rules)
