use Rattle.std.proofs.Common.{rules}
use Rattle.stops.proofs.stop.Goals as goal
use Rattle.stops.proofs.Laws.{laws}

pub returns : goal.returns
returns c = search (laws, rules)
