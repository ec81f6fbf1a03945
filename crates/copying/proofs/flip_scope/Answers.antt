use Rattle.std.proofs.Common.{rules}
use Rattle.copying.proofs.flip_scope.Goals as goal
use Rattle.copying.proofs.Whole.{laws, scope_flipped}

pub copy_all-requires : goal.copy_all-requires
copy_all-requires c = search (laws, rules)

pub returns : goal.returns
returns c = scope_flipped c.requires.0 _ _ c.copy_all.ensures
