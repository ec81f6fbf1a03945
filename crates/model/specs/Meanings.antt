-- Document 01, 'Expanding', and request T-08: what names mean, where an object is expanded, and where a tree is evaluated.
use Rattle.std.specs.Prelude.{zero, suc, Bool, false, ◌||◌, List, [], ◌∷◌, eqb}
use Rattle.std.proofs.Math.Option.{Option, none, some}
use Rattle.model.specs.Choice.{when◌then◌else◌}
use Rattle.model.specs.Scopes.{Scope}
use Rattle.model.specs.Objects.{Name, Symbol, Phase, Sets}
use Rattle.model.specs.Trees.{Tree}

-- the core forms are names 0 to 3; any other name heads none
pub data Form : Type 0 where
  lambda let_syntax quote syntax : Form

unfoldable pub form_of : Name → Option Form
form_of zero = some lambda
form_of (suc zero) = some let_syntax
form_of (suc (suc zero)) = some quote
form_of (suc (suc (suc zero))) = some syntax
form_of (suc (suc (suc (suc n)))) = none

-- ---- meanings

pub data Meaning : Type 0 where
  core : Form → Meaning
  variable : Sets → Symbol → Meaning
  macro : Tree → Meaning
  -- source document 000's STOP, of whatever meaning
  stopped : Meaning
  unknown : Meaning

-- meanings beyond the core, the last first. No stop is kept here: a list of names beside it has the stops, so that 000's unstop is to take another
-- list
pub data Env : Type 0 where
  core_only : Env
  extend : Name → Meaning → Env → Env

unfoldable pub core_meaning : Option Form → Meaning
core_meaning none = unknown
core_meaning (some f) = core f

unfoldable pub meaning : Name → Env → Meaning
unfolding core_meaning form_of
meaning n core_only = core_meaning (form_of n)
meaning n (extend k m e) = when eqb n k then m else meaning n e

unfoldable pub is_among : Name → List Name → Bool
is_among n [] = false
is_among n (m ∷ l) = eqb n m || is_among n l

-- request T-08: with the stops z
unfoldable pub meaning_among : Name → Env → List Name → Meaning
unfolding is_among meaning
meaning_among n e z = when is_among n z then stopped else meaning n e

-- ---- where an object is expanded. Only a local expansion has stops

pub record Surroundings : Type 0 where
  pub phase : Phase
  pub meanings : Env
  pub stops : List Name

-- of the root
abbrev pub of_root : Phase → Surroundings
of_root ph = record { phase = ph; meanings = core_only; stops = [] }

-- with the stops z alone
abbrev pub with_stops : List Name → Surroundings → Surroundings
with_stops z here = record { phase = here.phase; meanings = here.meanings; stops = z }

-- ---- request T-08: where a tree is evaluated. A right-hand side, and the evaluate job, are no macro use: 000's introduction scope is absent there

pub data Place : Type 0 where
  nowhere : Place
  -- the introduction scope, and where the macro is used
  macro_use : Scope → Surroundings → Place
