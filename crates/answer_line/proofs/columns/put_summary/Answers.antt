use Rattle.answer_line.proofs.Printing.{part-long, summary_laws}
use Rattle.std.proofs.Common.{rules}
use Rattle.answer_line.proofs.columns.put_summary.Goals as goal

pub put_text-requires : goal.put_text-requires
put_text-requires c = search (part-long, summary_laws, rules)

pub returns-then-code-ne0-clause-bytes : goal.returns-then-code-ne0-clause-bytes
returns-then-code-ne0-clause-bytes c = search (part-long, summary_laws, rules)

pub returns-then-code-ne0-clause-few : goal.returns-then-code-ne0-clause-few
returns-then-code-ne0-clause-few c = search (part-long, summary_laws, rules)

pub summary_words-count-requires : goal.summary_words-count-requires
summary_words-count-requires c = search (part-long, summary_laws, rules)

pub slice_bounds-put_words_hexadecimal-end : goal.slice_bounds-put_words_hexadecimal-end
slice_bounds-put_words_hexadecimal-end c = search (part-long, summary_laws, rules)

pub put_words_hexadecimal-requires : goal.put_words_hexadecimal-requires
put_words_hexadecimal-requires c = search (part-long, summary_laws, rules)

pub returns-clause-bytes : goal.returns-clause-bytes
returns-clause-bytes c = search (part-long, summary_laws, rules)

pub returns-clause-few : goal.returns-clause-few
returns-clause-few c = search (part-long, summary_laws, rules)
