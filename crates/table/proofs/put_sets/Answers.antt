use Rattle.table.specs.Words.{put_sets}
use Rattle.table.proofs.put_sets.Goals as goal

pub returns : goal.returns
unfolding put_sets
returns c = cc
