use Rattle.std.proofs.Common.{rules}
use Rattle.primitives.proofs.pick.Goals as goal
use Rattle.primitives.proofs.Atoms.{laws}

pub returns-then-o-ne-NUMBER_VALUE : goal.returns-then-o-ne-NUMBER_VALUE
returns-then-o-ne-NUMBER_VALUE c = search (laws, rules)

pub returns-then-o-eq0 : goal.returns-then-o-eq0
returns-then-o-eq0 c = search (laws, rules)

pub returns : goal.returns
returns c = search (laws, rules)
