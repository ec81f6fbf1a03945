use Rattle.std.proofs.Common.{refl}
use Rattle.bindings.proofs.loading.read_more.Goals as goal
use Rattle.refusals.proofs.Handing.{handed_on}
use Rattle.bindings.proofs.InTurn.{more-start, more-none, more-stops, more_disorder, more-goes}

pub loop-k-init : goal.loop-k-init
loop-k-init c = more-start c.requires.held.0

pub returns-in_err-b : goal.returns-in_err-b
returns-in_err-b c =
    rw (handed_on c.from_residual.ensures.1 refl) (more-stops c.loop-k.invariant c.after.ensures c.loop-k-test.true c.in_err-b.ensures refl)

pub returns-then-not-before : goal.returns-then-not-before
returns-then-not-before c =
    more_disorder c.loop-k.invariant c.after.ensures c.loop-k-test.true c.in_ok-b.ensures refl c.before-in-loop-k.ensures c.if-not-before.true

pub loop-k-preserved : goal.loop-k-preserved
loop-k-preserved c =
    more-goes c.loop-k.invariant c.after.ensures c.loop-k-test.true c.in_ok-b.ensures refl c.before-in-loop-k.ensures c.if-not-before.false c.put.ensures

pub returns : goal.returns
returns c = more-none c.loop-k.invariant refl c.loop-k-test.false
