use Rattle.std.proofs.Common.{rules}
use Rattle.text.proofs.put_number.Goals as goal
use Rattle.text.proofs.Decimal.{short-placed, short-room}

pub bounds-out-at : goal.bounds-out-at
bounds-out-at c = short-room _ _ _ c.if-n-lt10.true c.requires

pub returns-then-n-lt10 : goal.returns-then-n-lt10
returns-then-n-lt10 c = short-placed _ _ _ c.if-n-lt10.true
