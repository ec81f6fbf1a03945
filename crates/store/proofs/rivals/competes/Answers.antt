use Rattle.store.proofs.rivals.competes.Goals as goal
use mathlib.Core.Path.{◌∙◌}
use Rattle.store.proofs.Competing.{rival_where, no_rival}

pub returns-then-is_candidate : goal.returns-then-is_candidate
returns-then-is_candidate c = rival_where _ _ _ _ c.is_candidate.ensures c.if-is_candidate.true c.is_uncontained.ensures

pub returns-else-is_candidate : goal.returns-else-is_candidate
returns-else-is_candidate c = c.if-is_candidate.false ∙ no_rival _ _ _ _ c.is_candidate.ensures c.if-is_candidate.false
