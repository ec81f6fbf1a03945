use Rattle.answer_line.proofs.Printing.{printing_laws}
use Rattle.std.proofs.Common.{rules}
use Rattle.answer_line.proofs.columns.put_numbers.Goals as goal

pub put_pair-name-requires : goal.put_pair-name-requires
put_pair-name-requires c = search (printing_laws, rules)

pub put_pair-first-requires : goal.put_pair-first-requires
put_pair-first-requires c = search (printing_laws, rules)

pub put_pair-requires : goal.put_pair-requires
put_pair-requires c = search (printing_laws, rules)

pub returns-clause-bytes : goal.returns-clause-bytes
returns-clause-bytes c = search (printing_laws, rules)

pub returns-clause-few : goal.returns-clause-few
returns-clause-few c = search (printing_laws, rules)
