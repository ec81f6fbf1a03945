use Rattle.jobs.proofs.Endings.{ending_laws}
use Rattle.std.proofs.Common.{rules}
use Rattle.jobs.proofs.evaluating.evaluate_loaded.Goals as goal

pub evaluate_root-requires-clause-loaded : goal.evaluate_root-requires-clause-loaded
evaluate_root-requires-clause-loaded c = search (ending_laws, rules)

pub evaluate_root-requires-clause-empty : goal.evaluate_root-requires-clause-empty
evaluate_root-requires-clause-empty c = search (ending_laws, rules)

pub stopped-requires : goal.stopped-requires
stopped-requires c = search (ending_laws, rules)

pub finish_tree-requires-clause-came : goal.finish_tree-requires-clause-came
finish_tree-requires-clause-came c = search (ending_laws, rules)

pub finish_tree-requires-clause-within : goal.finish_tree-requires-clause-within
finish_tree-requires-clause-within c = search (ending_laws, rules)

pub returns-in-Err : goal.returns-in-Err
returns-in-Err c = search (ending_laws, rules)

pub returns-in-Ok : goal.returns-in-Ok
returns-in-Ok c = search (ending_laws, rules)
