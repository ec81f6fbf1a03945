use Rattle.words.proofs.same_bytes.Goals as goal
use Rattle.words.proofs.Bytes.{same_is}

pub returns : goal.returns
returns c = same_is _ _ c.eq.ensures
