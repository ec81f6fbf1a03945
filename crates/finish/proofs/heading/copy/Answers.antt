use Rattle.finish.proofs.Heads.{copy_laws}
use Rattle.std.proofs.Common.{rules}
use Rattle.finish.proofs.heading.copy.Goals as goal

pub loop-i-init : goal.loop-i-init
loop-i-init c = search (copy_laws, rules)

pub bounds-image-i : goal.bounds-image-i
bounds-image-i c = search (copy_laws, rules)

pub bounds-out-i : goal.bounds-out-i
bounds-out-i c = search (copy_laws, rules)

pub loop-i-preserved : goal.loop-i-preserved
loop-i-preserved c = search (copy_laws, rules)

pub returns : goal.returns
returns c = search (copy_laws, rules)
