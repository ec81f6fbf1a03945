use Rattle.jobs.proofs.Resolved.{name_laws}
use Rattle.std.proofs.Common.{rules}
use Rattle.jobs.proofs.resolving.resolve_name.Goals as goal

pub resolve-requires : goal.resolve-requires
resolve-requires c = search (name_laws, rules)

pub returns-in-Ok : goal.returns-in-Ok
returns-in-Ok c = search (name_laws, rules)

pub returns-in-Err : goal.returns-in-Err
returns-in-Err c = search (name_laws, rules)
