use Rattle.std.proofs.Common.{rules}
use Rattle.store.proofs.carried.put.Goals as goal
use Rattle.store.proofs.Carrying.{both_put}

pub returns : goal.returns
returns c = search (both_put, rules)
