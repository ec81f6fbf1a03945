use Rattle.jobs.proofs.Definitions.{phase_laws}
use Rattle.std.proofs.Common.{rules}
use Rattle.jobs.proofs.expanding.expand_work.Goals as goal

pub returns-then-phase-gt-LAST_PHASE : goal.returns-then-phase-gt-LAST_PHASE
returns-then-phase-gt-LAST_PHASE c = search (phase_laws, rules)

pub slice_bounds-expand_image-end : goal.slice_bounds-expand_image-end
slice_bounds-expand_image-end c = search (phase_laws, rules)

pub expand_image-requires-clause-lent : goal.expand_image-requires-clause-lent
expand_image-requires-clause-lent c = search (phase_laws, rules)

pub expand_image-requires-clause-wide : goal.expand_image-requires-clause-wide
expand_image-requires-clause-wide c = search (phase_laws, rules)

pub returns : goal.returns
returns c = search (phase_laws, rules)
