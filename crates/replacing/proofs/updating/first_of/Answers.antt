use Rattle.replacing.proofs.UpdateLaws.{first_laws}
use Rattle.std.proofs.Common.{rules}
use Rattle.replacing.proofs.updating.first_of.Goals as goal

pub returns-then-uses-eq0 : goal.returns-then-uses-eq0
returns-then-uses-eq0 c = search (first_laws, rules)

pub returns-then-stays : goal.returns-then-stays
returns-then-stays c = search (first_laws, rules)

pub returns-then-come-ne0 : goal.returns-then-come-ne0
returns-then-come-ne0 c = search (first_laws, rules)

pub returns-then-e-change : goal.returns-then-e-change
returns-then-e-change c = search (first_laws, rules)

pub returns : goal.returns
returns c = search (first_laws, rules)
