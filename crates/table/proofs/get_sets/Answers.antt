use Rattle.table.specs.Words.{get_sets}
use Rattle.table.proofs.get_sets.Goals as goal

pub returns : goal.returns
unfolding get_sets
returns c = cc
