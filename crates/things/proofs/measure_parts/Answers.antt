use Rattle.std.proofs.Common.{rules}
use Rattle.things.proofs.measure_parts.Goals as goal
use Rattle.things.proofs.Measuring.{laws}

pub returns-then-c-eq0 : goal.returns-then-c-eq0
returns-then-c-eq0 c = search (laws, rules)
