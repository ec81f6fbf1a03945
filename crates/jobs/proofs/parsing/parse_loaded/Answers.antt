use Rattle.jobs.proofs.Endings.{ending_laws}
use Rattle.std.proofs.Common.{rules}
use Rattle.jobs.proofs.parsing.parse_loaded.Goals as goal

pub parse_root-requires-clause-loaded : goal.parse_root-requires-clause-loaded
parse_root-requires-clause-loaded c = search (ending_laws, rules)

pub parse_root-requires-clause-wide : goal.parse_root-requires-clause-wide
parse_root-requires-clause-wide c = search (ending_laws, rules)

pub stopped-requires : goal.stopped-requires
stopped-requires c = search (ending_laws, rules)

pub finish_tree-requires-clause-came : goal.finish_tree-requires-clause-came
finish_tree-requires-clause-came c = search (ending_laws, rules)

pub finish_tree-requires-clause-within : goal.finish_tree-requires-clause-within
finish_tree-requires-clause-within c = search (ending_laws, rules)

pub returns-in-Err : goal.returns-in-Err
returns-in-Err c = search (ending_laws, rules)

pub returns-in-Ok : goal.returns-in-Ok
returns-in-Ok c = search (ending_laws, rules)
