use Rattle.model.specs.Jobs.{evaluate_job}
use Rattle.meirhuppa.proofs.Wholes.{lent_laws}
use Rattle.std.proofs.Common.{rules}
use Rattle.meirhuppa.proofs.evaluate.meirhuppa_evaluate.Goals as goal

pub small_table-requires : goal.small_table-requires
small_table-requires c = search (lent_laws, rules)

pub returns-then-budget-gt-MOST_BUDGET : goal.returns-then-budget-gt-MOST_BUDGET
unfolding evaluate_job
returns-then-budget-gt-MOST_BUDGET c = search (lent_laws, rules)

pub overflow_mul-words : goal.overflow_mul-words
overflow_mul-words c = search (lent_laws, rules)

pub small_table-requires-then-table-words : goal.small_table-requires-then-table-words
small_table-requires-then-table-words c = search (lent_laws, rules)

pub returns-then-table-words : goal.returns-then-table-words
unfolding evaluate_job
returns-then-table-words c = search (lent_laws, rules)

pub slice_bounds-evaluate_work-end : goal.slice_bounds-evaluate_work-end
slice_bounds-evaluate_work-end c = search (lent_laws, rules)

pub slice_bounds-evaluate_work-end-2 : goal.slice_bounds-evaluate_work-end-2
slice_bounds-evaluate_work-end-2 c = search (lent_laws, rules)

pub evaluate_work-ending-requires : goal.evaluate_work-ending-requires
evaluate_work-ending-requires c = search (lent_laws, rules)

pub clear-requires : goal.clear-requires
clear-requires c = search (lent_laws, rules)

pub given_back-requires : goal.given_back-requires
given_back-requires c = search (lent_laws, rules)

pub returns : goal.returns
unfolding evaluate_job
returns c = search (lent_laws, rules)
