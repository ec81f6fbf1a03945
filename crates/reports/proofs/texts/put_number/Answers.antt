use Rattle.std.proofs.Common.{rules}
use Rattle.reports.proofs.texts.put_number.Goals as goal
use Rattle.reports.proofs.Lines.{line_laws}

pub put_wide-requires : goal.put_wide-requires
put_wide-requires c = search (line_laws, rules)

pub returns-clause-bytes : goal.returns-clause-bytes
returns-clause-bytes c = search (line_laws, rules)

pub returns-clause-few : goal.returns-clause-few
returns-clause-few c = search (line_laws, rules)
