use Rattle.std.proofs.Common.{rules}
use Rattle.writer.proofs.Putting.{fronts}
use Rattle.writer.proofs.put_prefix.Goals as goal

pub put_number-mid-requires : goal.put_number-mid-requires
put_number-mid-requires c = search (fronts, rules)

pub put_object_prefix-requires : goal.put_object_prefix-requires
put_object_prefix-requires c = search (fronts, rules)

pub put_object_prefix-requires-else-lead : goal.put_object_prefix-requires-else-lead
put_object_prefix-requires-else-lead c = search (fronts, rules)

pub put_number-requires : goal.put_number-requires
put_number-requires c = search (fronts, rules)

pub put_number-requires-then-tag-eq-LIST_VALUE : goal.put_number-requires-then-tag-eq-LIST_VALUE
put_number-requires-then-tag-eq-LIST_VALUE c = search (fronts, rules)

pub put_number-mid-requires-else-tag-eq-LIST_VALUE : goal.put_number-mid-requires-else-tag-eq-LIST_VALUE
put_number-mid-requires-else-tag-eq-LIST_VALUE c = search (fronts, rules)

pub put_number-requires-else-tag-eq-LIST_VALUE : goal.put_number-requires-else-tag-eq-LIST_VALUE
put_number-requires-else-tag-eq-LIST_VALUE c = search (fronts, rules)

pub returns-then-lead : goal.returns-then-lead
returns-then-lead c = search (fronts, rules)

pub returns-else-lead : goal.returns-else-lead
returns-else-lead c = search (fronts, rules)

pub returns-then-tag-lt-LIST_VALUE : goal.returns-then-tag-lt-LIST_VALUE
returns-then-tag-lt-LIST_VALUE c = search (fronts, rules)

pub returns-then-tag-eq-LIST_VALUE : goal.returns-then-tag-eq-LIST_VALUE
returns-then-tag-eq-LIST_VALUE c = search (fronts, rules)

pub returns-else-tag-eq-LIST_VALUE : goal.returns-else-tag-eq-LIST_VALUE
returns-else-tag-eq-LIST_VALUE c = search (fronts, rules)
