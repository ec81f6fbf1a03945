use Rattle.std.proofs.Common.{rules}
use Rattle.copying.proofs.link_each.Goals as goal
use Rattle.copying.proofs.Rows.{laws}

pub loop-last-init : goal.loop-last-init
loop-last-init c = search (laws, rules)

pub copied_size-size-requires : goal.copied_size-size-requires
copied_size-size-requires c = search (laws, rules)

pub link-chain-requires : goal.link-chain-requires
link-chain-requires c = search (laws, rules)

pub overflow_mul-last : goal.overflow_mul-last
overflow_mul-last c = search (laws, rules)

pub overflow_sub-last : goal.overflow_sub-last
overflow_sub-last c = search (laws, rules)

pub loop-last-smaller : goal.loop-last-smaller
loop-last-smaller c = search (laws, rules)

pub loop-last-preserved : goal.loop-last-preserved
loop-last-preserved c = search (laws, rules)

pub returns : goal.returns
returns c = search (laws, rules)
