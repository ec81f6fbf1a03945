use Rattle.table.specs.Words.{get_entry}
use Rattle.table.proofs.get_entry.Goals as goal
use mathlib.Core.Path.{refl}

pub returns : goal.returns
unfolding get_entry
returns c = refl
