use Rattle.std.proofs.Common.{rules}
use Rattle.store.proofs.rivals.is_uncontained.Goals as goal
use Rattle.store.proofs.Competing.{deciding_laws}

pub loop-i-init : goal.loop-i-init
loop-i-init c = search (deciding_laws, rules)

pub returns-then-outdoes : goal.returns-then-outdoes
returns-then-outdoes c = search (deciding_laws, rules)

pub loop-i-preserved : goal.loop-i-preserved
loop-i-preserved c = search (deciding_laws, rules)

pub returns : goal.returns
returns c = search (deciding_laws, rules)
