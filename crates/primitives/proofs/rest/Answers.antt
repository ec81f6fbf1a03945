use Rattle.std.proofs.Common.{rules}
use Rattle.primitives.proofs.rest.Goals as goal
use Rattle.primitives.proofs.Lists.{laws}

pub returns-then-o-ne-LIST_VALUE : goal.returns-then-o-ne-LIST_VALUE
returns-then-o-ne-LIST_VALUE c = search (laws, rules)

pub returns-then-o-eq0 : goal.returns-then-o-eq0
returns-then-o-eq0 c = search (laws, rules)

pub get_cell-requires : goal.get_cell-requires
get_cell-requires c = search (laws, rules)

pub returns : goal.returns
returns c = search (laws, rules)
