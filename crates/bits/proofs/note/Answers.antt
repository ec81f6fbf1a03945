use Rattle.std.proofs.Common.{rules}
use Rattle.bits.proofs.note.Goals as goal
use Rattle.bits.proofs.Keeping.{noted}

pub returns : goal.returns
returns c = search (noted, rules)
