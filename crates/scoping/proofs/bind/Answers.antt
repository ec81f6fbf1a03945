use Rattle.std.proofs.Common.{rules}
use Rattle.scoping.proofs.bind.Goals as goal
use Rattle.scoping.proofs.Fresh.{laws}

pub with_scope-m-requires : goal.with_scope-m-requires
with_scope-m-requires c = search (laws, rules)

pub key-b-requires : goal.key-b-requires
key-b-requires c = search (laws, rules)

pub put_binder-requires : goal.put_binder-requires
put_binder-requires c = search (laws, rules)

pub returns : goal.returns
returns c = search (laws, rules)
