use Rattle.ranking.proofs.RootLaws.{root_laws}
use Rattle.std.proofs.Common.{rules}
use Rattle.ranking.proofs.roots.put_root.Goals as goal

pub read_front-x-requires : goal.read_front-x-requires
read_front-x-requires c = search (root_laws, rules)

pub put_piece-here-requires : goal.put_piece-here-requires
put_piece-here-requires c = search (root_laws, rules)

pub loop-from-smaller : goal.loop-from-smaller
loop-from-smaller c = search (root_laws, rules)

pub loop-from-preserved : goal.loop-from-preserved
loop-from-preserved c = search (root_laws, rules)

pub returns : goal.returns
returns c = search (root_laws, rules)
