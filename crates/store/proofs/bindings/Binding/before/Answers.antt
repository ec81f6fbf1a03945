use Rattle.store.proofs.bindings.Binding.before.Goals as goal
use mathlib.Core.Path.{◌∙◌}
use Rattle.store.proofs.Keys.{before_differs, before_alike, unlike, alike}

pub returns-then-ne : goal.returns-then-ne
returns-then-ne c = before_differs _ _ (unlike c.if-ne.ensures)

pub returns : goal.returns
returns c = c.before-2.ensures ∙ before_alike _ _ (alike c.if-ne.ensures)
