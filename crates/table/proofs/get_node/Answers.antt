use Rattle.table.specs.Words.{get_node}
use Rattle.table.proofs.get_node.Goals as goal
use mathlib.Core.Path.{refl}

pub returns : goal.returns
unfolding get_node
returns c = refl
