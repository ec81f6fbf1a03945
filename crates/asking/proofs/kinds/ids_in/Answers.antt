use Rattle.std.proofs.Common.{rules}
use Rattle.asking.proofs.kinds.ids_in.Goals as goal
use Rattle.asking.proofs.ByKind.{laws}

pub returns-then-n-ne-LIST_VALUE : goal.returns-then-n-ne-LIST_VALUE
returns-then-n-ne-LIST_VALUE c = search (laws, rules)

pub all_ids-requires : goal.all_ids-requires
all_ids-requires c = search (laws, rules)

pub returns-then-not-all_ids : goal.returns-then-not-all_ids
returns-then-not-all_ids c = search (laws, rules)

pub returns : goal.returns
returns c = search (laws, rules)
