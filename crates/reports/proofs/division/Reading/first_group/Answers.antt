use Rattle.std.proofs.Common.{rules}
use Rattle.reports.proofs.division.Reading.first_group.Goals as goal
use Rattle.reports.proofs.Dividing.{dividing_laws}

pub returns-then-b-lt128 : goal.returns-then-b-lt128
returns-then-b-lt128 c = search (dividing_laws, rules)

pub returns : goal.returns
returns c = search (dividing_laws, rules)
