use Rattle.finish.proofs.Finishing.{finish_laws}
use Rattle.std.proofs.Common.{rules}
use Rattle.finish.proofs.finish_tree.Goals as goal

pub overflow_sub-units : goal.overflow_sub-units
overflow_sub-units c = search (finish_laws, rules)

pub most_for-cap-requires : goal.most_for-cap-requires
most_for-cap-requires c = search (finish_laws, rules)

pub head_len-requires : goal.head_len-requires
head_len-requires c = search (finish_laws, rules)

pub capped-front-requires : goal.capped-front-requires
capped-front-requires c = search (finish_laws, rules)

pub tree_len-n-requires : goal.tree_len-n-requires
tree_len-n-requires c = search (finish_laws, rules)

pub returns-then-cap-n : goal.returns-then-cap-n
returns-then-cap-n c = search (finish_laws, rules)

pub put_tree_image-requires : goal.put_tree_image-requires
put_tree_image-requires c = search (finish_laws, rules)

pub returns : goal.returns
returns c = search (finish_laws, rules)
