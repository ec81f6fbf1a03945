use Rattle.std.proofs.Common.{rules}
use Rattle.summaries.proofs.Questions.{asking_laws}
use Rattle.summaries.proofs.ask_of.Goals as goal

pub returns-then-not-belongs : goal.returns-then-not-belongs
returns-then-not-belongs c = search (asking_laws, rules)

pub returns-then-o-name : goal.returns-then-o-name
returns-then-o-name c = search (asking_laws, rules)

pub bounds-words-i : goal.bounds-words-i
bounds-words-i c = search (asking_laws, rules)

pub bounds-words-i-2 : goal.bounds-words-i-2
bounds-words-i-2 c = search (asking_laws, rules)

pub returns : goal.returns
returns c = search (asking_laws, rules)
