use Rattle.finish.proofs.Heads.{end_laws}
use Rattle.std.proofs.Common.{rules}
use Rattle.finish.proofs.heading.words_end.Goals as goal

pub overflow_sub-made : goal.overflow_sub-made
overflow_sub-made c = search (end_laws, rules)

pub overflow_sub-made-2 : goal.overflow_sub-made-2
overflow_sub-made-2 c = search (end_laws, rules)

pub number_len-requires : goal.number_len-requires
number_len-requires c = search (end_laws, rules)

pub overflow_sub-result : goal.overflow_sub-result
overflow_sub-result c = search (end_laws, rules)

pub number_len-requires-2 : goal.number_len-requires-2
number_len-requires-2 c = search (end_laws, rules)

pub overflow_sub-result-2 : goal.overflow_sub-result-2
overflow_sub-result-2 c = search (end_laws, rules)

pub returns : goal.returns
returns c = search (end_laws, rules)
