use Rattle.store.proofs.resolving.Resolving.see.Goals as goal
use mathlib.Core.Path.{sym, ◌∙◌}
use Rattle.store.proofs.Taking.{see_candidate, see_other}

pub returns-then-is_candidate : goal.returns-then-is_candidate
returns-then-is_candidate c = c.take.ensures ∙ see_candidate _ _ _ _ (sym c.is_candidate.ensures ∙ c.if-is_candidate.true)

pub returns-else-is_candidate : goal.returns-else-is_candidate
returns-else-is_candidate c = see_other _ _ _ _ (sym c.is_candidate.ensures ∙ c.if-is_candidate.false)
