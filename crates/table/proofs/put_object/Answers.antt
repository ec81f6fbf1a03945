use Rattle.table.specs.Words.{put_object}
use Rattle.table.proofs.put_object.Goals as goal

pub returns : goal.returns
unfolding put_object
returns c = cc
