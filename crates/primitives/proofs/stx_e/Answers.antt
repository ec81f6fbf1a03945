use Rattle.std.proofs.Common.{rules}
use Rattle.primitives.proofs.stx_e.Goals as goal
use Rattle.primitives.proofs.Syntax.{laws}

pub returns-then-o-gt-LIST : goal.returns-then-o-gt-LIST
returns-then-o-gt-LIST c = search (laws, rules)

pub returns-then-o-eq-LIST : goal.returns-then-o-eq-LIST
returns-then-o-eq-LIST c = search (laws, rules)

pub returns : goal.returns
returns c = search (laws, rules)
