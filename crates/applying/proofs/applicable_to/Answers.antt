use Rattle.std.proofs.Common.{rules}
use Rattle.applying.proofs.applicable_to.Goals as goal
use Rattle.applying.proofs.Testing.{testing}

pub returns : goal.returns
returns c = search (testing, rules)
