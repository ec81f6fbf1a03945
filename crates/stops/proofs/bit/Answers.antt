use Rattle.std.proofs.Common.{rules}
use Rattle.stops.specs.Stops.{bit_of}
use Rattle.stops.proofs.bit.Goals as goal
use Rattle.stops.proofs.Laws.{laws}

pub returns : goal.returns
unfolding bit_of
returns c = search (laws, rules)
