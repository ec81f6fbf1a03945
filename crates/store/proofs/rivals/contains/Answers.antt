use Rattle.std.proofs.Common.{rules}
use Rattle.store.proofs.rivals.contains.Goals as goal
use Rattle.store.proofs.Competing.{contained_laws}

pub returns-then-within : goal.returns-then-within
returns-then-within c = search (contained_laws, rules)

pub returns-else-within : goal.returns-else-within
returns-else-within c = search (contained_laws, rules)
