use Rattle.std.proofs.Common.{rules}
use Rattle.recordings.proofs.Changes.{change-room, change-byte}
use Rattle.recordings.proofs.Taking.{taking_no_fault, taking-place, taking_on, taking-end}
use Rattle.recordings.proofs.take_changes.Goals as goal

pub returns-in_default : goal.returns-in_default
returns-in_default c = taking_no_fault c.loop.invariant c.after.ensures c.loop-test.true c.read_change.ensures c.in_default.is

pub overflow_cast-points : goal.overflow_cast-points
overflow_cast-points c = search (change-byte, rules, c.in-Ok.is)

pub bounds-points-q : goal.bounds-points-q
bounds-points-q c = taking-place c.loop.invariant c.after.ensures c.loop-test.true c.read_change.ensures c.in-Ok.is

pub overflow_add-least : goal.overflow_add-least
overflow_add-least c = search (change-room, rules, c.in-Ok.is)

pub loop-preserved : goal.loop-preserved
loop-preserved c = taking_on c.loop.invariant c.after.ensures c.loop-test.true c.read_change.ensures c.in-Ok.is

pub returns : goal.returns
returns c = taking-end c.loop.invariant c.loop-test.false
