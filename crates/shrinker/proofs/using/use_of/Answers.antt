use Rattle.shrinker.proofs.UseLaws.{use_laws}
use Rattle.std.proofs.Common.{rules}
use Rattle.shrinker.proofs.using.use_of.Goals as goal

pub chain-requires : goal.chain-requires
chain-requires c = search (use_laws, rules)

pub mark_root-used-requires : goal.mark_root-used-requires
mark_root-used-requires c = search (use_laws, rules)

pub returns : goal.returns
returns c = search (use_laws, rules)
