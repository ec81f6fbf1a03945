use Rattle.std.proofs.Common.{rules}
use Rattle.copying.proofs.prune_scopes.Goals as goal
use Rattle.copying.proofs.Whole.{laws, scopes_pruned}

pub copy_all-requires : goal.copy_all-requires
copy_all-requires c = search (laws, rules)

pub returns : goal.returns
returns c = scopes_pruned c.requires _ _ c.copy_all.ensures
