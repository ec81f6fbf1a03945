use Rattle.std.proofs.Common.{rules}
use Rattle.expand.proofs.Agreeing.{handed}
use Rattle.expand.proofs.Leaves.{laws, prune-refused}
use Rattle.expand.proofs.plain.pruned.Goals as goal

pub prune_from-requires : goal.prune_from-requires
prune_from-requires c = search (laws, rules)

pub returns-in_err-o : goal.returns-in_err-o
returns-in_err-o c = prune-refused _ c.requires.0 _ _ c.get.ensures.0 c.prune_from.ensures c.in_err-o.was (handed c.from_residual.ensures.1)

pub two_list-requires : goal.two_list-requires
two_list-requires c = search (laws, rules, c.in_ok-o.was)

pub returns : goal.returns
returns c = search (laws, rules, c.in_ok-o.was)
