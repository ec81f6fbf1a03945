use Rattle.std.proofs.Common.{rules}
use Rattle.expand.proofs.Making.{laws}
use Rattle.expand.proofs.lists.chain.Goals as goal

pub link-m-requires : goal.link-m-requires
link-m-requires c = search (laws, rules)

pub link-requires : goal.link-requires
link-requires c = search (laws, rules)

pub returns : goal.returns
returns c = search (laws, rules)
