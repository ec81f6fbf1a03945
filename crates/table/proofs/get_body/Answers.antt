use Rattle.table.specs.Words.{get_body}
use Rattle.table.proofs.get_body.Goals as goal
use mathlib.Core.Path.{refl}

pub returns : goal.returns
unfolding get_body
returns c = refl
