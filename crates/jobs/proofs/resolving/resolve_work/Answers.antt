use Rattle.jobs.proofs.Resolved.{resolve_phase_laws}
use Rattle.std.proofs.Common.{rules}
use Rattle.jobs.proofs.resolving.resolve_work.Goals as goal

pub returns-then-phase-gt-LAST_PHASE : goal.returns-then-phase-gt-LAST_PHASE
returns-then-phase-gt-LAST_PHASE c = search (resolve_phase_laws, rules)

pub slice_bounds-resolve_image-end : goal.slice_bounds-resolve_image-end
slice_bounds-resolve_image-end c = search (resolve_phase_laws, rules)

pub resolve_image-requires : goal.resolve_image-requires
resolve_image-requires c = search (resolve_phase_laws, rules)

pub returns : goal.returns
returns c = search (resolve_phase_laws, rules)
