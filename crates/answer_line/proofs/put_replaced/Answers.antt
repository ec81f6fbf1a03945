use Rattle.answer_line.proofs.Printing.{replaced-placed, printing_laws}
use Rattle.std.proofs.Common.{rules}
use Rattle.answer_line.proofs.put_replaced.Goals as goal

pub put_columns-space-requires : goal.put_columns-space-requires
put_columns-space-requires c = search (replaced-placed, printing_laws, rules)

pub put_text-column-requires : goal.put_text-column-requires
put_text-column-requires c = search (replaced-placed, printing_laws, rules)

pub put_summary-end-requires : goal.put_summary-end-requires
put_summary-end-requires c = search (replaced-placed, printing_laws, rules)

pub put_text-requires : goal.put_text-requires
put_text-requires c = search (replaced-placed, printing_laws, rules)

pub returns : goal.returns
returns c = search (replaced-placed, printing_laws, rules)
