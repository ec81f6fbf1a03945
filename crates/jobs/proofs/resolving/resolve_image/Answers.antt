use Rattle.jobs.proofs.Resolved.{resolved_laws}
use Rattle.std.proofs.Common.{rules}
use Rattle.jobs.proofs.resolving.resolve_image.Goals as goal

pub judge_syntax-requires : goal.judge_syntax-requires
judge_syntax-requires c = search (resolved_laws, rules)

pub begin-requires : goal.begin-requires
begin-requires c = search (resolved_laws, rules)

pub stopped-requires : goal.stopped-requires
stopped-requires c = search (resolved_laws, rules)

pub resolve_loaded-requires-clause-good : goal.resolve_loaded-requires-clause-good
resolve_loaded-requires-clause-good c = search (resolved_laws, rules)

pub resolve_loaded-requires-clause-wide : goal.resolve_loaded-requires-clause-wide
resolve_loaded-requires-clause-wide c = search (resolved_laws, rules)

pub returns-in-Err : goal.returns-in-Err
returns-in-Err c = search (resolved_laws, rules)

pub returns-in-Err-begin : goal.returns-in-Err-begin
returns-in-Err-begin c = search (resolved_laws, rules)

pub returns-in-Ok-begin : goal.returns-in-Ok-begin
returns-in-Ok-begin c = search (resolved_laws, rules)
