use Rattle.jobs.proofs.Endings.{ending_laws}
use Rattle.std.proofs.Common.{rules}
use Rattle.jobs.proofs.expanding.expand_loaded.Goals as goal

pub expand_root-requires-clause-loaded : goal.expand_root-requires-clause-loaded
expand_root-requires-clause-loaded c = search (ending_laws, rules)

pub expand_root-requires-clause-wide : goal.expand_root-requires-clause-wide
expand_root-requires-clause-wide c = search (ending_laws, rules)

pub stopped-requires : goal.stopped-requires
stopped-requires c = search (ending_laws, rules)

pub finish_syntax-requires : goal.finish_syntax-requires
finish_syntax-requires c = search (ending_laws, rules)

pub returns-in-Err : goal.returns-in-Err
returns-in-Err c = search (ending_laws, rules)

pub returns-in-Ok : goal.returns-in-Ok
returns-in-Ok c = search (ending_laws, rules)
