use Rattle.jobs.proofs.Charging.{tree_charging_laws}
use Rattle.jobs.proofs.Definitions.{evaluate-ends}
use Rattle.std.proofs.Common.{rules}
use Rattle.jobs.proofs.evaluating.evaluate_work.Goals as goal

pub judge_tree-requires : goal.judge_tree-requires
judge_tree-requires c = search (tree_charging_laws, evaluate-ends, rules)

pub begin-requires : goal.begin-requires
begin-requires c = search (tree_charging_laws, evaluate-ends, rules)

pub stopped-requires : goal.stopped-requires
stopped-requires c = search (tree_charging_laws, evaluate-ends, rules)

pub slice_bounds-evaluate_loaded-end : goal.slice_bounds-evaluate_loaded-end
slice_bounds-evaluate_loaded-end c = search (tree_charging_laws, evaluate-ends, rules)

pub evaluate_loaded-requires : goal.evaluate_loaded-requires
evaluate_loaded-requires c = search (tree_charging_laws, evaluate-ends, rules)

pub returns-in-Err : goal.returns-in-Err
returns-in-Err c = search (tree_charging_laws, evaluate-ends, rules)

pub returns-in-Err-begin : goal.returns-in-Err-begin
returns-in-Err-begin c = search (tree_charging_laws, evaluate-ends, rules)

pub returns-in-Ok-begin : goal.returns-in-Ok-begin
returns-in-Ok-begin c = search (tree_charging_laws, evaluate-ends, rules)
