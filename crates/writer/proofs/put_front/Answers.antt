use Rattle.std.proofs.Common.{rules}
use Rattle.writer.proofs.put_front.Goals as goal
use Rattle.writer.proofs.Putting.{fronts}

pub put_prefix-mid-requires : goal.put_prefix-mid-requires
put_prefix-mid-requires c = search (fronts, rules)

pub put_number-requires : goal.put_number-requires
put_number-requires c = search (fronts, rules)

pub returns : goal.returns
returns c = search (fronts, rules)
