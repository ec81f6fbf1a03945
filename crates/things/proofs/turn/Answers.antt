use Rattle.std.proofs.Common.{rules}
use Rattle.things.proofs.turn.Goals as goal
use Rattle.things.proofs.Turning.{laws}

pub loop-from-init : goal.loop-from-init
loop-from-init c = search (laws, rules)

pub link-m-requires : goal.link-m-requires
link-m-requires c = search (laws, rules)

pub loop-from-smaller : goal.loop-from-smaller
loop-from-smaller c = search (laws, rules)

pub loop-from-preserved : goal.loop-from-preserved
loop-from-preserved c = search (laws, rules)

pub returns : goal.returns
returns c = search (laws, rules)
