use Rattle.std.proofs.Common.{rules}
use Rattle.summaries.proofs.MakeLaws.{make_from_laws}
use Rattle.summaries.proofs.make_from.Goals as goal

pub returns-then-words-entry_at : goal.returns-then-words-entry_at
returns-then-words-entry_at c = search (make_from_laws, rules)

pub returns : goal.returns
returns c = search (make_from_laws, rules)
