use Rattle.std.proofs.Common.{rules}
use Rattle.asking.proofs.kinds.is_id.Goals as goal
use Rattle.asking.proofs.ByKind.{laws}

pub returns : goal.returns
returns c = search (laws, rules)
