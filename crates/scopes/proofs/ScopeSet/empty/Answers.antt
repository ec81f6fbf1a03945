use mathlib.Core.Path.{refl}
use Rattle.scopes.specs.Sets.{words_from}
use Rattle.scopes.proofs.ScopeSet.empty.Goals as goal

pub returns : goal.returns
unfolding words_from
returns c = refl
