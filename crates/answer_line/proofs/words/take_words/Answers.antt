use Rattle.answer_line.proofs.Taking.{taking_laws}
use Rattle.std.proofs.Common.{rules}
use Rattle.answer_line.proofs.words.take_words.Goals as goal

pub loop-i-init : goal.loop-i-init
loop-i-init c = search (taking_laws, rules)

pub overflow_mul-at : goal.overflow_mul-at
overflow_mul-at c = search (taking_laws, rules)

pub bounds-bytes-at : goal.bounds-bytes-at
bounds-bytes-at c = search (taking_laws, rules)

pub overflow_add-at : goal.overflow_add-at
overflow_add-at c = search (taking_laws, rules)

pub bounds-bytes-at-in-loop-i : goal.bounds-bytes-at-in-loop-i
bounds-bytes-at-in-loop-i c = search (taking_laws, rules)

pub overflow_add-at-in-loop-i : goal.overflow_add-at-in-loop-i
overflow_add-at-in-loop-i c = search (taking_laws, rules)

pub bounds-bytes-at-in-loop-i-2 : goal.bounds-bytes-at-in-loop-i-2
bounds-bytes-at-in-loop-i-2 c = search (taking_laws, rules)

pub overflow_add-at-in-loop-i-2 : goal.overflow_add-at-in-loop-i-2
overflow_add-at-in-loop-i-2 c = search (taking_laws, rules)

pub bounds-bytes-at-in-loop-i-3 : goal.bounds-bytes-at-in-loop-i-3
bounds-bytes-at-in-loop-i-3 c = search (taking_laws, rules)

pub word-requires : goal.word-requires
word-requires c = search (taking_laws, rules)

pub offset_bounds-words-i : goal.offset_bounds-words-i
offset_bounds-words-i c = search (taking_laws, rules)

pub bounds-words-i : goal.bounds-words-i
bounds-words-i c = search (taking_laws, rules)

pub loop-i-preserved : goal.loop-i-preserved
loop-i-preserved c = search (taking_laws, rules)

pub returns : goal.returns
returns c = search (taking_laws, rules)
