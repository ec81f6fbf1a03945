use Rattle.std.proofs.Common.{rules}
use Rattle.refusals.proofs.Handing.{handed_on}
use Rattle.recordings.proofs.Changes.{change-place, change-room}
use Rattle.recordings.proofs.Checking.{changes_stop, changes_on, changes-end}
use Rattle.recordings.proofs.check_changes.Goals as goal

pub returns-in_err-q : goal.returns-in_err-q
returns-in_err-q c = handed_on c.from_residual.ensures.1 (changes_stop c.loop.invariant c.after.ensures c.loop-test.true c.read_change.ensures c.in_err-q.was)

pub names_driven-driven-requires : goal.names_driven-driven-requires
names_driven-driven-requires c = search (change-place, rules, c.in_ok-q.was)

pub overflow_add-least : goal.overflow_add-least
overflow_add-least c = search (change-room, rules, c.in_ok-q.was)

pub loop-preserved : goal.loop-preserved
loop-preserved c = changes_on c.loop.invariant c.after.ensures c.loop-test.true c.read_change.ensures c.in_ok-q.was c.names_driven-driven.ensures

pub returns : goal.returns
returns c = changes-end c.loop.invariant c.loop-test.false
