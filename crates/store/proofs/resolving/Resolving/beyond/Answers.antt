use Rattle.store.proofs.resolving.Resolving.beyond.Goals as goal
use mathlib.Core.Path.{sym, ◌∙◌}
use Rattle.store.proofs.Taking.{beyond_larger, beyond_apart}

pub returns-then-within : goal.returns-then-within
returns-then-within c = c.clear.ensures ∙ beyond_larger _ _ (sym c.within.ensures ∙ c.if-within.true)

pub returns-else-within : goal.returns-else-within
returns-else-within c = c.unclear.ensures ∙ beyond_apart _ _ (sym c.within.ensures ∙ c.if-within.false)
