use Rattle.places.proofs.Walking.{find_laws}
use Rattle.std.proofs.Common.{rules}
use Rattle.places.proofs.counting.find.Goals as goal

pub loop-place-init : goal.loop-place-init
loop-place-init c = search (find_laws, rules)

pub returns-in_default : goal.returns-in_default
returns-in_default c = search (find_laws, rules)

pub returns-then-is_use_of : goal.returns-then-is_use_of
returns-then-is_use_of c = search (find_laws, rules)

pub loop-place-preserved : goal.loop-place-preserved
loop-place-preserved c = search (find_laws, rules)

pub returns : goal.returns
returns c = search (find_laws, rules)
