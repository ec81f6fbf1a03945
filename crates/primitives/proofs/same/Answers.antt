use Rattle.std.proofs.Common.{rules}
use Rattle.primitives.proofs.same.Goals as goal
use Rattle.primitives.proofs.Atoms.{laws}

pub returns-then-a-lt-ATOM_VALUE : goal.returns-then-a-lt-ATOM_VALUE
returns-then-a-lt-ATOM_VALUE c = search (laws, rules)

pub returns-then-b-lt-ATOM_VALUE : goal.returns-then-b-lt-ATOM_VALUE
returns-then-b-lt-ATOM_VALUE c = search (laws, rules)

pub returns : goal.returns
returns c = search (laws, rules)
