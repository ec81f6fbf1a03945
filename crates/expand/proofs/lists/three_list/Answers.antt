use Rattle.std.proofs.Common.{rules}
use Rattle.expand.proofs.Making.{laws}
use Rattle.expand.proofs.lists.three_list.Goals as goal

pub link-n-requires : goal.link-n-requires
link-n-requires c = search (laws, rules)

pub listed-requires : goal.listed-requires
listed-requires c = search (laws, rules)
