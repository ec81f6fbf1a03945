use Rattle.stops.proofs.none_yet.Goals as goal
use Rattle.stops.proofs.Laws.{none_made}
use native.Mathlib.Omega.{arith}

pub returns : goal.returns
returns c = none_made _ c.fill.new.self c.requires (omega arith) (c.fill.ensures.after (λ y e. e))
