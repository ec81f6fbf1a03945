use Rattle.model.specs.Jobs.{resolve_job}
use Rattle.meirhuppa.proofs.Wholes.{named_laws}
use Rattle.std.proofs.Common.{rules}
use Rattle.meirhuppa.proofs.resolve.meirhuppa_resolve.Goals as goal

pub small_table-requires : goal.small_table-requires
small_table-requires c = search (named_laws, rules)

pub returns-then-budget-gt-MOST_BUDGET : goal.returns-then-budget-gt-MOST_BUDGET
unfolding resolve_job
returns-then-budget-gt-MOST_BUDGET c = search (named_laws, rules)

pub overflow_mul-words : goal.overflow_mul-words
overflow_mul-words c = search (named_laws, rules)

pub small_table-requires-then-table-words : goal.small_table-requires-then-table-words
small_table-requires-then-table-words c = search (named_laws, rules)

pub returns-then-table-words : goal.returns-then-table-words
unfolding resolve_job
returns-then-table-words c = search (named_laws, rules)

pub resolve_work-ending-requires : goal.resolve_work-ending-requires
resolve_work-ending-requires c = search (named_laws, rules)

pub clear-requires : goal.clear-requires
clear-requires c = search (named_laws, rules)

pub given_back-requires : goal.given_back-requires
given_back-requires c = search (named_laws, rules)

pub returns : goal.returns
unfolding resolve_job
returns c = search (named_laws, rules)
