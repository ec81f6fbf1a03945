use Rattle.stops.proofs.is_stopped.Goals as goal
use Rattle.stops.proofs.is_stopped.Goals.{then-z-ne0, else-z-ne0}
use Rattle.stops.proofs.Laws.{stopped-past, stopped-nowhere}

pub returns-else-name-lt-MOST : goal.returns-else-name-lt-MOST
returns-else-name-lt-MOST c = elim c.if-z-ne0.branch [
  | then-z-ne0 w ↦ stopped-past w.if-z-ne0.true w.t-5-is c.if-name-lt-MOST.either
  | else-z-ne0 w ↦ stopped-nowhere w.if-z-ne0.false w.t-5-is
]
