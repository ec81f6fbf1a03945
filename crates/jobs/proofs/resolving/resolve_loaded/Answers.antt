use Rattle.std.proofs.Common.{rules}
use Rattle.jobs.proofs.Resolved.{root_laws}
use Rattle.jobs.proofs.resolving.resolve_loaded.Goals as goal

pub after-rest-requires : goal.after-rest-requires
after-rest-requires c = search (root_laws, rules)

pub counts-counts-requires : goal.counts-counts-requires
counts-counts-requires c = search (root_laws, rules)

pub resolve_root-requires-clause-image : goal.resolve_root-requires-clause-image
resolve_root-requires-clause-image c = search (root_laws, rules)

pub resolve_root-requires-clause-held : goal.resolve_root-requires-clause-held
resolve_root-requires-clause-held c = search (root_laws, rules)

pub returns-in-Ok : goal.returns-in-Ok
returns-in-Ok c = search (root_laws, rules)

pub returns-in-Err : goal.returns-in-Err
returns-in-Err c = search (root_laws, rules)
