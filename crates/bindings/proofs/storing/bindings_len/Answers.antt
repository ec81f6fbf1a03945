use Rattle.std.proofs.Common.{rules}
use Rattle.bindings.proofs.storing.bindings_len.Goals as goal
use Rattle.bindings.proofs.Lengths.{storing_laws}

pub loop-i-init : goal.loop-i-init
loop-i-init c = search (storing_laws, rules)

pub loop-i-preserved : goal.loop-i-preserved
loop-i-preserved c = search (storing_laws, rules)

pub returns : goal.returns
returns c = search (storing_laws, rules)
