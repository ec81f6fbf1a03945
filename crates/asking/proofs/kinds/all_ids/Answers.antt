use Rattle.std.proofs.Common.{rules}
use Rattle.asking.proofs.kinds.all_ids.Goals as goal
use Rattle.asking.proofs.ByKind.{laws}

pub loop-k-init : goal.loop-k-init
loop-k-init c = search (laws, rules)

pub get_cell-x-requires : goal.get_cell-x-requires
get_cell-x-requires c = search (laws, rules)

pub is_id-requires : goal.is_id-requires
is_id-requires c = search (laws, rules)

pub returns-then-not-is_id : goal.returns-then-not-is_id
returns-then-not-is_id c = search (laws, rules)

pub loop-k-smaller : goal.loop-k-smaller
loop-k-smaller c = search (laws, rules)

pub loop-k-preserved : goal.loop-k-preserved
loop-k-preserved c = search (laws, rules)

pub returns : goal.returns
returns c = search (laws, rules)
