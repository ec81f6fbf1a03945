use Rattle.answer_line.proofs.Printing.{printing_laws}
use Rattle.std.proofs.Common.{rules}
use Rattle.answer_line.proofs.columns.put_buffers.Goals as goal

pub put_table-second-requires : goal.put_table-second-requires
put_table-second-requires c = search (printing_laws, rules)

pub put_output-requires : goal.put_output-requires
put_output-requires c = search (printing_laws, rules)

pub returns-clause-bytes : goal.returns-clause-bytes
returns-clause-bytes c = search (printing_laws, rules)

pub returns-clause-few : goal.returns-clause-few
returns-clause-few c = search (printing_laws, rules)
