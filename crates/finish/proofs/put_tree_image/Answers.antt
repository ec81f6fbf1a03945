use Rattle.finish.proofs.Finishing.{put_laws}
use Rattle.std.proofs.Common.{rules}
use Rattle.finish.proofs.put_tree_image.Goals as goal

pub put_head-root-requires : goal.put_head-root-requires
put_head-root-requires c = search (put_laws, rules)

pub put_tree-requires : goal.put_tree-requires
put_tree-requires c = search (put_laws, rules)

pub returns : goal.returns
returns c = search (put_laws, rules)
