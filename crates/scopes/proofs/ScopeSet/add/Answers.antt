use Rattle.model.specs.Scopes.{add}
use mathlib.Core.Path.{ap, ◌∙◌}
use Rattle.std.proofs.Common.{ℕ}
use Rattle.std.specs.Int.Bits.{bit_or}
use Rattle.scopes.specs.Sets.{scopes_of}
use Rattle.scopes.proofs.ScopeSet.add.Goals as goal

pub returns : goal.returns
unfolding add
returns c = c.union.ensures ∙ ap (λ (one : ℕ). bit_or one (scopes_of c.args.self)) c.only.ensures
