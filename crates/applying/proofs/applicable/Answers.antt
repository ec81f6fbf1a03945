use Rattle.std.proofs.Common.{rules}
use Rattle.applying.proofs.applicable.Goals as goal
use Rattle.applying.proofs.Testing.{testing}

pub returns-in-8 : goal.returns-in-8
returns-in-8 c = search (testing, rules)

pub returns-in-13 : goal.returns-in-13
returns-in-13 c = search (testing, rules)

pub returns-in_default : goal.returns-in_default
returns-in_default c = search (testing, rules)
