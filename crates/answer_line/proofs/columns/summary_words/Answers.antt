use Rattle.answer_line.proofs.Printing.{summary_laws}
use Rattle.std.proofs.Common.{rules}
use Rattle.answer_line.proofs.columns.summary_words.Goals as goal

pub returns-then-words-lt2-clause-few : goal.returns-then-words-lt2-clause-few
returns-then-words-lt2-clause-few c = search (summary_laws, rules)

pub returns-then-words-lt2-clause-front : goal.returns-then-words-lt2-clause-front
returns-then-words-lt2-clause-front c = search (summary_laws, rules)

pub bounds-words-1 : goal.bounds-words-1
bounds-words-1 c = search (summary_laws, rules)

pub returns-clause-few : goal.returns-clause-few
returns-clause-few c = search (summary_laws, rules)

pub returns-clause-front : goal.returns-clause-front
returns-clause-front c = search (summary_laws, rules)
