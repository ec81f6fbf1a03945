use Rattle.finish.proofs.Heads.{length_laws}
use Rattle.std.proofs.Common.{rules}
use Rattle.finish.proofs.heading.head_len.Goals as goal

pub overflow_sub-made : goal.overflow_sub-made
overflow_sub-made c = search (length_laws, rules)

pub overflow_sub-made-2 : goal.overflow_sub-made-2
overflow_sub-made-2 c = search (length_laws, rules)

pub words_end-requires : goal.words_end-requires
words_end-requires c = search (length_laws, rules)

pub number_len-requires : goal.number_len-requires
number_len-requires c = search (length_laws, rules)

pub overflow_add-result : goal.overflow_add-result
overflow_add-result c = search (length_laws, rules)

pub number_len-requires-2 : goal.number_len-requires-2
number_len-requires-2 c = search (length_laws, rules)

pub overflow_add-result-2 : goal.overflow_add-result-2
overflow_add-result-2 c = search (length_laws, rules)

pub returns : goal.returns
returns c = search (length_laws, rules)
