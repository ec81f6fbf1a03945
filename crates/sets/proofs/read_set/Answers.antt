use Rattle.std.proofs.Common.{rules}
use Rattle.sets.proofs.read_set.Goals as goal
use Rattle.numbers.proofs.Answering.{answering, seen_handed}
use Rattle.sets.proofs.Reading.{set-stops, set-goes}

pub returns-in_err-count : goal.returns-in_err-count
returns-in_err-count c = seen_handed _ _ c.from_residual.ensures.1 (set-stops _ _ _ c.number.ensures c.in_err-count.was)

pub after-requires : goal.after-requires
after-requires c = search (answering, rules, c.in_ok-count.was)

pub returns : goal.returns
returns c = set-goes _ _ _ c.number.ensures c.in_ok-count.was c.after.ensures c.read_members.ensures
