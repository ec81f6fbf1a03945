use Rattle.std.proofs.Common.{rules}
use Rattle.primitives.proofs.link.Goals as goal
use Rattle.primitives.proofs.Lists.{laws}

pub returns-then-o-ne-LIST_VALUE : goal.returns-then-o-ne-LIST_VALUE
returns-then-o-ne-LIST_VALUE c = search (laws, rules)

pub link-c-requires : goal.link-c-requires
link-c-requires c = search (laws, rules)

pub returns : goal.returns
returns c = search (laws, rules)
