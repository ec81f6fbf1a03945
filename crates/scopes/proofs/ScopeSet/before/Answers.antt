use Rattle.std.proofs.Common.{rules}
use Rattle.scopes.proofs.ScopeSet.before.Goals as goal
use Rattle.scopes.proofs.Deciding.{before-none, before_mine, before-other, differing_at, differing_inside, xor-none}
use Rattle.scopes.proofs.Ops.{of_fits, each_more}
use mathlib.Core.Path.{sym}

pub loop-i-preserved : goal.loop-i-preserved
loop-i-preserved c = search (each_more, xor-none, rules)

pub overflow_shr-mine : goal.overflow_shr-mine
overflow_shr-mine c = search (differing_inside, rules)

pub reaches-requires-else-mine-q-eq1 : goal.reaches-requires-else-mine-q-eq1
reaches-requires-else-mine-q-eq1 c = search (differing_inside, rules)

pub returns-then-mine-q-eq1 : goal.returns-then-mine-q-eq1
returns-then-mine-q-eq1 c = search (before_mine, differing_at, of_fits, rules)

pub returns-else-mine-q-eq1 : goal.returns-else-mine-q-eq1
returns-else-mine-q-eq1 c = search (before-other, differing_at, of_fits, rules)

pub returns : goal.returns
returns c = search (sym, before-none, of_fits, rules)
