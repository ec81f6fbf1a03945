use Rattle.finish.proofs.Finishing.{finish_syntax_laws}
use Rattle.std.proofs.Common.{rules}
use Rattle.finish.proofs.finish_syntax.Goals as goal

pub overflow_sub-units : goal.overflow_sub-units
overflow_sub-units c = search (finish_syntax_laws, rules)

pub most_for-cap-requires : goal.most_for-cap-requires
most_for-cap-requires c = search (finish_syntax_laws, rules)

pub before_root-requires : goal.before_root-requires
before_root-requires c = search (finish_syntax_laws, rules)

pub capped-front-requires : goal.capped-front-requires
capped-front-requires c = search (finish_syntax_laws, rules)

pub object_len-n-requires : goal.object_len-n-requires
object_len-n-requires c = search (finish_syntax_laws, rules)

pub returns-then-cap-n : goal.returns-then-cap-n
returns-then-cap-n c = search (finish_syntax_laws, rules)

pub put_syntax_image-requires : goal.put_syntax_image-requires
put_syntax_image-requires c = search (finish_syntax_laws, rules)

pub returns : goal.returns
returns c = search (finish_syntax_laws, rules)
