use Rattle.std.proofs.Common.{rules}
use Rattle.store.proofs.rivals.next_rival.Goals as goal
use Rattle.store.proofs.Competing.{seeking_laws}

pub returns-then-competes : goal.returns-then-competes
returns-then-competes c = search (seeking_laws, rules)

pub loop-i-preserved : goal.loop-i-preserved
loop-i-preserved c = search (seeking_laws, rules)

pub returns : goal.returns
returns c = search (seeking_laws, rules)
