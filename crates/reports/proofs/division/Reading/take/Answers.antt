use Rattle.std.proofs.Common.{rules}
use Rattle.reports.proofs.division.Reading.take.Goals as goal
use Rattle.reports.proofs.Dividing.{dividing_laws}

pub returns-in-Between : goal.returns-in-Between
returns-in-Between c = search (dividing_laws, rules)

pub returns-in-Length : goal.returns-in-Length
returns-in-Length c = search (dividing_laws, rules)

pub returns-in-Image : goal.returns-in-Image
returns-in-Image c = search (dividing_laws, rules)

pub returns-in-Passing : goal.returns-in-Passing
returns-in-Passing c = search (dividing_laws, rules)

pub returns-in-Cut : goal.returns-in-Cut
returns-in-Cut c = search (dividing_laws, rules)
