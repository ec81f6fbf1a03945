use Rattle.answer_line.proofs.Printing.{printing_laws}
use Rattle.std.proofs.Common.{rules}
use Rattle.answer_line.proofs.columns.put_output.Goals as goal

pub put_written-end-requires : goal.put_written-end-requires
put_written-end-requires c = search (printing_laws, rules)

pub is_kept_after-requires : goal.is_kept_after-requires
is_kept_after-requires c = search (printing_laws, rules)

pub returns-then-is_kept_after-clause-bytes : goal.returns-then-is_kept_after-clause-bytes
returns-then-is_kept_after-clause-bytes c = search (printing_laws, rules)

pub returns-then-is_kept_after-clause-few : goal.returns-then-is_kept_after-clause-few
returns-then-is_kept_after-clause-few c = search (printing_laws, rules)

pub put_text-requires : goal.put_text-requires
put_text-requires c = search (printing_laws, rules)

pub returns-clause-bytes : goal.returns-clause-bytes
returns-clause-bytes c = search (printing_laws, rules)

pub returns-clause-few : goal.returns-clause-few
returns-clause-few c = search (printing_laws, rules)
