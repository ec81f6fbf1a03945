use Rattle.answer_line.proofs.Printing.{printing_laws}
use Rattle.std.proofs.Common.{rules}
use Rattle.answer_line.proofs.columns.put_written.Goals as goal

pub put_text-requires : goal.put_text-requires
put_text-requires c = search (printing_laws, rules)

pub returns-then-count-eq0-clause-bytes : goal.returns-then-count-eq0-clause-bytes
returns-then-count-eq0-clause-bytes c = search (printing_laws, rules)

pub returns-then-count-eq0-clause-few : goal.returns-then-count-eq0-clause-few
returns-then-count-eq0-clause-few c = search (printing_laws, rules)

pub put_hexadecimal-requires : goal.put_hexadecimal-requires
put_hexadecimal-requires c = search (printing_laws, rules)

pub slice_bounds-put_hexadecimal-end : goal.slice_bounds-put_hexadecimal-end
slice_bounds-put_hexadecimal-end c = search (printing_laws, rules)

pub returns-clause-bytes : goal.returns-clause-bytes
returns-clause-bytes c = search (printing_laws, rules)

pub returns-clause-few : goal.returns-clause-few
returns-clause-few c = search (printing_laws, rules)
