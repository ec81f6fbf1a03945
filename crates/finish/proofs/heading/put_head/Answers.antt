use Rattle.finish.proofs.Heads.{put_laws}
use Rattle.std.proofs.Common.{rules}
use Rattle.finish.proofs.heading.put_head.Goals as goal

pub put_number-start-requires : goal.put_number-start-requires
put_number-start-requires c = search (put_laws, rules)

pub words_end-behind-requires : goal.words_end-behind-requires
words_end-behind-requires c = search (put_laws, rules)

pub copy-requires : goal.copy-requires
copy-requires c = search (put_laws, rules)

pub overflow_sub-made : goal.overflow_sub-made
overflow_sub-made c = search (put_laws, rules)

pub overflow_sub-made-2 : goal.overflow_sub-made-2
overflow_sub-made-2 c = search (put_laws, rules)

pub put_number-mid-requires : goal.put_number-mid-requires
put_number-mid-requires c = search (put_laws, rules)

pub put_number-requires : goal.put_number-requires
put_number-requires c = search (put_laws, rules)

pub returns : goal.returns
returns c = search (put_laws, rules)
