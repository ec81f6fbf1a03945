use Rattle.std.proofs.Common.{rules}
use Rattle.copying.proofs.copy_all.Goals as goal
use Rattle.copying.proofs.Whole.{laws}

pub measure-levels-requires : goal.measure-levels-requires
measure-levels-requires c = search (laws, rules)

pub copy_object-requires : goal.copy_object-requires
copy_object-requires c = search (laws, rules)
