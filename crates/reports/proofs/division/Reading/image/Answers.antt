use Rattle.std.proofs.Common.{rules}
use Rattle.reports.proofs.division.Reading.image.Goals as goal
use Rattle.reports.proofs.Dividing.{dividing_laws}

pub returns-then-length-gt-MOST_IMAGE : goal.returns-then-length-gt-MOST_IMAGE
returns-then-length-gt-MOST_IMAGE c = search (dividing_laws, rules)

pub returns : goal.returns
returns c = search (dividing_laws, rules)
