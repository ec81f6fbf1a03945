use Rattle.answer_line.proofs.Printing.{printing_laws}
use Rattle.std.proofs.Common.{rules}
use Rattle.answer_line.proofs.columns.put_table.Goals as goal

pub are_words-requires : goal.are_words-requires
are_words-requires c = search (printing_laws, rules)

pub put_text-requires : goal.put_text-requires
put_text-requires c = search (printing_laws, rules)

pub returns-then-are_words-clause-bytes : goal.returns-then-are_words-clause-bytes
returns-then-are_words-clause-bytes c = search (printing_laws, rules)

pub returns-then-are_words-clause-few : goal.returns-then-are_words-clause-few
returns-then-are_words-clause-few c = search (printing_laws, rules)

pub is_clear-requires : goal.is_clear-requires
is_clear-requires c = search (printing_laws, rules)

pub put_text-requires-then-is_clear : goal.put_text-requires-then-is_clear
put_text-requires-then-is_clear c = search (printing_laws, rules)

pub returns-then-is_clear-clause-bytes : goal.returns-then-is_clear-clause-bytes
returns-then-is_clear-clause-bytes c = search (printing_laws, rules)

pub returns-then-is_clear-clause-few : goal.returns-then-is_clear-clause-few
returns-then-is_clear-clause-few c = search (printing_laws, rules)

pub put_text-requires-2 : goal.put_text-requires-2
put_text-requires-2 c = search (printing_laws, rules)

pub returns-clause-bytes : goal.returns-clause-bytes
returns-clause-bytes c = search (printing_laws, rules)

pub returns-clause-few : goal.returns-clause-few
returns-clause-few c = search (printing_laws, rules)
