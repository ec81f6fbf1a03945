use Rattle.answer_line.proofs.Printing.{printing_laws}
use Rattle.std.proofs.Common.{rules}
use Rattle.answer_line.proofs.columns.put_pair.Goals as goal

pub put_number-second-requires : goal.put_number-second-requires
put_number-second-requires c = search (printing_laws, rules)

pub put_number-requires : goal.put_number-requires
put_number-requires c = search (printing_laws, rules)

pub returns-clause-bytes : goal.returns-clause-bytes
returns-clause-bytes c = search (printing_laws, rules)

pub returns-clause-few : goal.returns-clause-few
returns-clause-few c = search (printing_laws, rules)
