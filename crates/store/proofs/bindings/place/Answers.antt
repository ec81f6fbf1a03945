use Rattle.store.proofs.bindings.place.Goals as goal
use mathlib.Core.Path.{sym, ap, ◌∙◌}
use Rattle.model.specs.Resolving.{bind_before}
use Rattle.store.proofs.Runs.{passed_none, passed_here, passed_on, passed_all}

pub loop-i-init : goal.loop-i-init
loop-i-init c = passed_none _ _ _

pub returns-then-before : goal.returns-then-before
returns-then-before c = passed_here c.loop-i.invariant c.loop-i-test.true (ap (bind_before _) (sym c.get.ensures) ∙ sym c.before-in-loop-i.ensures ∙ c.if-before.true)

pub loop-i-preserved : goal.loop-i-preserved
loop-i-preserved c = passed_on c.loop-i.invariant c.loop-i-test.true (ap (bind_before _) (sym c.get.ensures) ∙ sym c.before-in-loop-i.ensures ∙ c.if-before.false)

pub returns : goal.returns
returns c = passed_all c.loop-i.invariant c.loop-i-test.false
