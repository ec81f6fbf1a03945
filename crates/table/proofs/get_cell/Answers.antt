use Rattle.table.specs.Words.{get_cell}
use Rattle.table.proofs.get_cell.Goals as goal
use mathlib.Core.Path.{refl}

pub returns : goal.returns
unfolding get_cell
returns c = refl
