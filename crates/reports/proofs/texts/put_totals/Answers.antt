use Rattle.std.proofs.Common.{rules}
use Rattle.reports.proofs.texts.put_totals.Goals as goal
use Rattle.reports.proofs.Lines.{line_laws}

pub returns-clause-bytes : goal.returns-clause-bytes
returns-clause-bytes c = search (line_laws, rules)
