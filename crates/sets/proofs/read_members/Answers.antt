use Rattle.std.proofs.Common.{refl, ◌-◌, ◌<◌, arith}
use Rattle.sets.proofs.read_members.Goals as goal
use Rattle.sets.proofs.read_members.Goals.{then-k-last-via-then-k-last, then-k-last-via-else-k-last+then-scopes-k}
use Rattle.numbers.proofs.Answering.{seen_handed}
use Rattle.sets.proofs.Reading.{members-start, members-read, members_stop, member_low, member_over, member_more}

pub loop-init : goal.loop-init
loop-init c = members-start (omega arith) c.empty-set.ensures

pub returns-in_err-k : goal.returns-in_err-k
returns-in_err-k c =
    let some : 0 < c.args.count - c.loop.counter = omega (arith, c.loop-test.true) in
    seen_handed _ _ c.from_residual.ensures.1 (members_stop c.loop.invariant c.after.ensures some c.number.ensures c.in_err-k.was)

pub returns-then-k-last : goal.returns-then-k-last
returns-then-k-last c =
    let some : 0 < c.args.count - c.loop.counter = omega (arith, c.loop-test.true) in
    elim c.then-k-last.branch [
      | then-k-last-via-then-k-last w ↦ member_low c.loop.invariant c.after.ensures some c.number.ensures c.in_ok-k.was w.if-k-last.true
      | then-k-last-via-else-k-last+then-scopes-k w ↦ member_over c.loop.invariant c.after.ensures some c.number.ensures c.in_ok-k.was w.if-k-last.false w.if-scopes-k.true
    ]

pub loop-preserved : goal.loop-preserved
loop-preserved c =
    let some : 0 < c.args.count - c.loop.counter = omega (arith, c.loop-test.true) in
    member_more c.loop.invariant c.after.ensures some c.number.ensures c.in_ok-k.was c.if-k-last.false (omega arith) c.if-scopes-k.false c.add-set.ensures

pub returns : goal.returns
returns c = members-read c.loop.invariant refl (omega (arith, c.loop-test.false))
