use Rattle.std.proofs.Common.{rules}
use Rattle.copying.proofs.strip.Goals as goal
use Rattle.copying.proofs.Whole.{laws, object_stripped}

pub copy_all-requires : goal.copy_all-requires
copy_all-requires c = search (laws, rules)

pub returns : goal.returns
returns c = object_stripped c.requires _ c.copy_all.ensures
