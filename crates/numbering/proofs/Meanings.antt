-- Meanings, and where an object is expanded, alike. Scopes that expanding makes were fresh, so that they are left as they are.
use mathlib.Core.Path.{◌≡◌}
use Prim.Native.Nat.{ℕ}
use mathlib.Core.Bool.{Bool, true, false}
use mathlib.Core.Option.{Option, none, some}
use mathlib.Core.List.{List}
use lib.Dec.{eqb}
use Rattle.model.specs.Choice.{when◌then◌else◌}
use Rattle.model.specs.Objects.{Sets}
use Rattle.model.specs.Trees.{Tree}
use Rattle.model.specs.Meanings.{Form, form_of, Meaning, core, variable, macro, stopped, unknown, Env, core_only, extend, core_meaning, meaning, is_among, meaning_among, Surroundings, Place, nowhere, macro_use}
use Rattle.model.specs.Expanding.{Binder}
use Rattle.alike.proofs.Alike.{NewNumbers, SetsAlike, TreeAlike}

pub data MeaningAlike (ρ : NewNumbers) : Meaning → Meaning → Type 0 where
  cores : {f : Form} → MeaningAlike ρ (core f) (core f)
  variables : {c d : Sets} {x : ℕ} → SetsAlike ρ c d → MeaningAlike ρ (variable c x) (variable d x)
  macros : {v w : Tree} → TreeAlike ρ v w → MeaningAlike ρ (macro v) (macro w)
  stoppeds : MeaningAlike ρ stopped stopped
  unknowns : MeaningAlike ρ unknown unknown

pub data EnvAlike (ρ : NewNumbers) : Env → Env → Type 0 where
  core-only : EnvAlike ρ core_only core_only
  extends : {n : ℕ} {m o : Meaning} {e f : Env} → MeaningAlike ρ m o → EnvAlike ρ e f → EnvAlike ρ (extend n m e) (extend n o f)

pub data HereAlike (ρ : NewNumbers) : Surroundings → Surroundings → Type 0 where
  heres : {ph : ℕ} {e f : Env} {z : List ℕ} → EnvAlike ρ e f
      → HereAlike ρ (record { phase = ph; meanings = e; stops = z }) (record { phase = ph; meanings = f; stops = z })

-- an introduction scope was fresh
pub data PlaceAlike (ρ : NewNumbers) : Place → Place → Type 0 where
  nowheres : PlaceAlike ρ nowhere nowhere
  macro-uses : {k : ℕ} {a b : Surroundings} → ρ.to k ≡ k → HereAlike ρ a b → PlaceAlike ρ (macro_use k a) (macro_use k b)

-- a scope that is left as it is
pub data ScopeAlike (ρ : NewNumbers) : ℕ → ℕ → Type 0 where
  scopes : {k : ℕ} → ρ.to k ≡ k → ScopeAlike ρ k k

pub data BinderAlike (ρ : NewNumbers) : Binder → Binder → Type 0 where
  binders : {n k : ℕ} {c d : Sets} → ρ.to k ≡ k → SetsAlike ρ c d
      → BinderAlike ρ (record { name = n; scope = k; sets = c }) (record { name = n; scope = k; sets = d })

module _ (ρ : NewNumbers) where
  core_alike : (o : Option Form) → MeaningAlike ρ (core_meaning o) (core_meaning o)
  unfolding core_meaning
  core_alike none = unknowns
  core_alike (some f) = cores

  choice_alike : (b : Bool) {m n o p : Meaning} → MeaningAlike ρ m o → MeaningAlike ρ n p → MeaningAlike ρ (when b then m else n) (when b then o else p)
  choice_alike true h i = h
  choice_alike false h i = i

  pub meaning_alike : (n : ℕ) {e f : Env} → EnvAlike ρ e f → MeaningAlike ρ (meaning n e) (meaning n f)
  unfolding meaning
  meaning_alike n core-only = core_alike (form_of n)
  meaning_alike k (extends {n} h i) = choice_alike (eqb k n) h (meaning_alike k i)

  pub among_alike : (n : ℕ) {e f : Env} → EnvAlike ρ e f → (z : List ℕ) → MeaningAlike ρ (meaning_among n e z) (meaning_among n f z)
  unfolding meaning_among
  among_alike n h z = choice_alike (is_among n z) stoppeds (meaning_alike n h)
