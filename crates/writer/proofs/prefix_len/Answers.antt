use Rattle.std.proofs.Common.{rules}
use Rattle.writer.proofs.prefix_len.Goals as goal
use Rattle.writer.proofs.Counting.{one-prefix, two-prefix}

pub returns-then-node-lt-ATOM_VALUE : goal.returns-then-node-lt-ATOM_VALUE
returns-then-node-lt-ATOM_VALUE c = search (one-prefix, rules)

pub returns-else-node-lt-ATOM_VALUE : goal.returns-else-node-lt-ATOM_VALUE
returns-else-node-lt-ATOM_VALUE c = search (two-prefix, rules)
