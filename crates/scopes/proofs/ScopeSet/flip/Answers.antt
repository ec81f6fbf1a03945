use Rattle.std.proofs.Common.{rules}
use Rattle.scopes.proofs.ScopeSet.flip.Goals as goal
use Rattle.scopes.proofs.Members.{flip-out, flip_in_lem}

pub returns-then-has : goal.returns-then-has
returns-then-has c = search (flip-out, rules)

pub returns-else-has : goal.returns-else-has
returns-else-has c = search (flip_in_lem, rules)
