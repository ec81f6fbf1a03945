-- What the code's work is.
use Rattle.std.specs.Prelude.{Bool, true, false}
use Rattle.model.specs.Choice.{when◌then◌else◌}
use Rattle.model.specs.Scopes.{Scopes, add, flip, prune}
use Rattle.model.specs.Objects.{Sets, change_at}
use Rattle.scopes.specs.Sets.{scopes_of, Declared}
use Rattle.scopes.specs.declared.Scope.{Scope}
use Rattle.scopes.specs.declared.ScopeSet.{ScopeSet}
use Rattle.copying.specs.Reaching.{Copying, changing, stripping}
use Rattle.copying.specs.declared.Act.{Act}
use Rattle.copying.specs.declared.Act.TheVariants.{Add, Flip, Prune, Strip}
use Rattle.copying.specs.declared.Work.{Work}

-- a scope that is added or flipped has a number of its counting
pub data Sound : Act → Type 0 where
  sound-add : {k : Scope} → Declared k → Sound (Add k)
  sound-flip : {k : Scope} → Declared k → Sound (Flip k)
  sound-prune : {p : ScopeSet} → Sound (Prune p)
  sound-strip : Sound Strip

unfoldable pub strips : Act → Bool
strips (Add k) = false
strips (Flip k) = false
strips (Prune p) = false
strips Strip = true

unfoldable pub set_change : Act → Scopes → Scopes
set_change (Add k) m = add k.0 m
set_change (Flip k) m = flip k.0 m
set_change (Prune p) m = prune (scopes_of p) m
set_change Strip m = m

-- of an object's three sets
abbrev pub sets_change : Work → Sets → Sets
sets_change w = change_at (set_change w.act) w.phase

unfoldable pub copying_of : Work → Copying
unfolding strips set_change change_at
copying_of w = when strips w.act then stripping else changing (sets_change w)
