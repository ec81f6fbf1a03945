use Rattle.shrinker.proofs.WriteLaws.{write_laws}
use Rattle.std.proofs.Common.{rules}
use Rattle.shrinker.proofs.writing.put_smaller.Goals as goal

pub put_head-behind-requires : goal.put_head-behind-requires
put_head-behind-requires c = search (write_laws, rules)

pub put_number-first-requires : goal.put_number-first-requires
put_number-first-requires c = search (write_laws, rules)

pub put_kept-root-requires : goal.put_kept-root-requires
put_kept-root-requires c = search (write_laws, rules)

pub put_root-requires : goal.put_root-requires
put_root-requires c = search (write_laws, rules)

pub returns : goal.returns
returns c = search (write_laws, rules)
