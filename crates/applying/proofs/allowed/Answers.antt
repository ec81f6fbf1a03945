use Rattle.std.proofs.Common.{rules}
use Rattle.applying.proofs.allowed.Goals as goal
use Rattle.applying.proofs.Allowing.{allowing}

pub returns-then-place-ne0 : goal.returns-then-place-ne0
returns-then-place-ne0 c = search (allowing, rules)

pub returns-then-o-ne-PRIMITIVE_VALUE : goal.returns-then-o-ne-PRIMITIVE_VALUE
returns-then-o-ne-PRIMITIVE_VALUE c = search (allowing, rules)

pub returns : goal.returns
returns c = search (allowing, rules)
