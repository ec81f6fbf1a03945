use Rattle.std.proofs.Common.{rules}
use Rattle.applying.proofs.+count.Goals as goal
use Rattle.applying.proofs.Testing.{testing}

pub returns-then-c-eq0 : goal.returns-then-c-eq0
returns-then-c-eq0 t c = search (testing, rules)

pub returns : goal.returns
returns t c = search (testing, rules)
