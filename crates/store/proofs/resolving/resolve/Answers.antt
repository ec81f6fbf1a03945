use Rattle.std.proofs.Common.{rules}
use Rattle.store.proofs.resolving.resolve.Goals as goal
use Rattle.store.proofs.Taking.{pass_start, pass_next, pass_end}
use Rattle.store.proofs.Competing.{decided-is}

pub loop-i-init : goal.loop-i-init
loop-i-init c = search (pass_start, pass_next, pass_end, decided-is, rules)

pub loop-i-preserved : goal.loop-i-preserved
loop-i-preserved c = search (pass_start, pass_next, pass_end, decided-is, rules)

pub returns : goal.returns
returns c = search (pass_start, pass_next, pass_end, decided-is, rules)
