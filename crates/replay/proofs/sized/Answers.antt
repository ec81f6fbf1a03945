use Rattle.replay.proofs.Parts.{part-within}
use Rattle.std.proofs.Common.{rules}
use Rattle.replay.proofs.sized.Goals as goal

pub exact-requires : goal.exact-requires
exact-requires c = search (part-within, c.requires, rules)
