use Rattle.std.proofs.Common.{rules}
use Rattle.scopes.proofs.ScopeSet.within.Goals as goal
use mathlib.Core.Path.{sym}
use Rattle.scopes.proofs.Ops.{within_all, within-not, of_fits}

pub returns-then-self-i : goal.returns-then-self-i
returns-then-self-i c = sym (search (within-not, of_fits, rules))

pub returns : goal.returns
returns c = search (within_all, sym, of_fits, rules)
