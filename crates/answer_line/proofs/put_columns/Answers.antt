use Rattle.answer_line.proofs.Printing.{printing_laws}
use Rattle.std.proofs.Common.{rules}
use Rattle.answer_line.proofs.put_columns.Goals as goal

pub put_numbers-buffers-requires : goal.put_numbers-buffers-requires
put_numbers-buffers-requires c = search (printing_laws, rules)

pub put_buffers-requires : goal.put_buffers-requires
put_buffers-requires c = search (printing_laws, rules)

pub returns-clause-bytes : goal.returns-clause-bytes
returns-clause-bytes c = search (printing_laws, rules)

pub returns-clause-few : goal.returns-clause-few
returns-clause-few c = search (printing_laws, rules)
