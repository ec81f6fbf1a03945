use Rattle.text_reader.proofs.WriteLaws.{word_laws}
use Rattle.std.proofs.Common.{rules}
use Rattle.text_reader.proofs.writing.put_word.Goals as goal

pub overflow_sub-past : goal.overflow_sub-past
overflow_sub-past c = search (word_laws, rules)

pub overflow_cast-past : goal.overflow_cast-past
overflow_cast-past c = search (word_laws, rules)

pub put_number-bytes-requires : goal.put_number-bytes-requires
put_number-bytes-requires c = search (word_laws, rules)

pub slice_bounds-put_text-count : goal.slice_bounds-put_text-count
slice_bounds-put_text-count c = search (word_laws, rules)

pub slice_bounds-put_text-start : goal.slice_bounds-put_text-start
slice_bounds-put_text-start c = search (word_laws, rules)

pub slice_bounds-put_text-end : goal.slice_bounds-put_text-end
slice_bounds-put_text-end c = search (word_laws, rules)

pub put_text-requires : goal.put_text-requires
put_text-requires c = search (word_laws, rules)

pub returns : goal.returns
returns c = search (word_laws, rules)
