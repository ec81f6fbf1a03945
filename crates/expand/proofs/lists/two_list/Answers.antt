use Rattle.std.proofs.Common.{rules}
use Rattle.expand.proofs.Making.{laws}
use Rattle.expand.proofs.lists.two_list.Goals as goal

pub relist-m-requires : goal.relist-m-requires
relist-m-requires c = search (laws, rules)
