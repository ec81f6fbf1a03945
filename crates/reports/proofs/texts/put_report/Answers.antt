use Rattle.std.proofs.Common.{rules}
use Rattle.reports.proofs.texts.put_report.Goals as goal
use Rattle.reports.proofs.Lines.{line_laws}

pub returns-then-between-clause-bytes : goal.returns-then-between-clause-bytes
returns-then-between-clause-bytes c = search (line_laws, rules)

pub returns-clause-bytes : goal.returns-clause-bytes
returns-clause-bytes c = search (line_laws, rules)
