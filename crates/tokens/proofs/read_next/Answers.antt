use Rattle.std.proofs.Common.{rules}
use Rattle.tokens.proofs.NextLaws.{next_laws}
use Rattle.tokens.proofs.read_next.Goals as goal

pub returns-in-40 : goal.returns-in-40
returns-in-40 c = search (next_laws, rules)

pub returns-in-41 : goal.returns-in-41
returns-in-41 c = search (next_laws, rules)

pub returns-in_default : goal.returns-in_default
returns-in_default c = search (next_laws, rules)

pub returns-then-from-text : goal.returns-then-from-text
returns-then-from-text c = search (next_laws, rules)
