use Rattle.std.proofs.Common.{rules}
use Rattle.builder.proofs.atom.Goals as goal
use Rattle.builder.proofs.TreeLaws.{tree_laws}

pub read_number-content-requires : goal.read_number-content-requires
read_number-content-requires c = search (tree_laws, rules)

pub overflow_add-node : goal.overflow_add-node
overflow_add-node c = search (tree_laws, rules)

pub leaf-requires : goal.leaf-requires
leaf-requires c = search (tree_laws, rules)

pub returns : goal.returns
returns c = search (tree_laws, rules)
