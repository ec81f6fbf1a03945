use Rattle.std.proofs.Common.{rules}
use Rattle.writer.proofs.put_object_prefix.Goals as goal
use Rattle.writer.proofs.Putting.{fronts}

pub put_number-mid-requires : goal.put_number-mid-requires
put_number-mid-requires c = search (fronts, rules)

pub put_sets-requires : goal.put_sets-requires
put_sets-requires c = search (fronts, rules)

pub returns : goal.returns
returns c = search (fronts, rules)
