use Rattle.std.proofs.Common.{rules}
use Rattle.reports.proofs.texts.put_mean.Goals as goal
use Rattle.reports.proofs.Lines.{line_laws}

pub returns-then-sums-eq0-clause-bytes : goal.returns-then-sums-eq0-clause-bytes
returns-then-sums-eq0-clause-bytes c = search (line_laws, rules)

pub returns-clause-bytes : goal.returns-clause-bytes
returns-clause-bytes c = search (line_laws, rules)
