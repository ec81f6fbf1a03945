use Rattle.answer_line.proofs.Calls.{told_laws}
use Rattle.std.proofs.Common.{rules}
use Rattle.answer_line.proofs.put_told.Goals as goal

pub of-requires : goal.of-requires
of-requires c = search (told_laws, rules)

pub slice_bounds-pair-end : goal.slice_bounds-pair-end
slice_bounds-pair-end c = search (told_laws, rules)

pub slice_bounds-put_line-end : goal.slice_bounds-put_line-end
slice_bounds-put_line-end c = search (told_laws, rules)

pub put_line-requires : goal.put_line-requires
put_line-requires c = search (told_laws, rules)

pub returns-then-code-ne0 : goal.returns-then-code-ne0
returns-then-code-ne0 c = search (told_laws, rules)

pub slice_bounds-put_words-end : goal.slice_bounds-put_words-end
slice_bounds-put_words-end c = search (told_laws, rules)

pub slice_bounds-put_words-end-2 : goal.slice_bounds-put_words-end-2
slice_bounds-put_words-end-2 c = search (told_laws, rules)

pub put_words-requires : goal.put_words-requires
put_words-requires c = search (told_laws, rules)

pub of-requires-2 : goal.of-requires-2
of-requires-2 c = search (told_laws, rules)

pub slice_bounds-put_line-end-2 : goal.slice_bounds-put_line-end-2
slice_bounds-put_line-end-2 c = search (told_laws, rules)

pub put_line-requires-2 : goal.put_line-requires-2
put_line-requires-2 c = search (told_laws, rules)

pub returns : goal.returns
returns c = search (told_laws, rules)
