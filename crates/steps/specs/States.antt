-- The code's state as the rules' state, and what the code's charges do to it.
use Rattle.std.specs.Prelude.{List, [], ℕ, ◌+◌, ◌-◌, ◌*◌, ◌≤◌, length, eqb, ltb, Result, Ok, Err}
use Rattle.model.specs.Choice.{when◌then◌else◌}
use Rattle.model.specs.Scopes.{Scopes, no_scopes}
use Rattle.model.specs.Resolving.{Bind}
use Rattle.model.specs.Steps as m
use Rattle.refusals.specs.declared.Refusal.{Refusal}
use Rattle.refusals.specs.declared.Refusal.TheVariants.{Ambiguous, TooManyEntries, OverBudget}
use Rattle.steps.specs.declared.State.{State}
use Rattle.steps.specs.declared.Stop.{Stop}
use Rattle.store.specs.declared.rivals.Rivals.{Rivals}
use Rattle.store.specs.Sizes.{most_bindings, held_size}
use Rattle.store.specs.Words.{binds_of, prunable_of, uses_of}
use Rattle.table.specs.Sizes.{table_size, unit_size}

-- entries in progress: the model's most_entries
abbrev pub most_entries : ℕ
most_entries = 128

-- what an agreement speaks of that lies outside the state: what the first n places of the store stand for, and the prunable set and the use scopes behind them.
-- What neither binds nor carries takes any; parse, and expanding and evaluating, take what their store's contents are.
pub record Store : Type 0 where
  pub bindings : ℕ → List Bind
  pub prunable : Scopes
  pub uses : Scopes

abbrev pub store_of : List ℕ → Store
store_of l = record { bindings = binds_of l; prunable = prunable_of l; uses = uses_of l }

-- where any will do
abbrev pub no_store : Store
no_store = record { bindings = λ n. []; prunable = no_scopes; uses = no_scopes }

-- the store is whole, and holds no more than it has room for
pub record Held (st : List ℕ) (s : State) : Type 0 where
  pub few : s.bindings ≤ most_bindings
  pub wide : held_size ≤ length st

abbrev pub state_of : State → Store → m.State
state_of s b = record { left = s.left; names = s.names; scopes = s.scopes; binds = b.bindings s.bindings; prunable = b.prunable; uses = b.uses }

-- no bindings compete
abbrev pub quiet : Rivals
quiet = record { first = 0; second = 0 }

abbrev pub stop_of : Refusal → State → Stop
stop_of r s = record { refusal = r; rivals = quiet; left = s.left }

-- code 6, and those that compete
abbrev pub ambiguous_of : Rivals → State → Stop
ambiguous_of p s = record { refusal = Ambiguous; rivals = p; left = s.left }

abbrev pub paid : ℕ → State → State
paid n s = record { top = s.top; left = s.left - n; names = s.names; scopes = s.scopes; bindings = s.bindings }

abbrev pub raised_to : ℕ → State → State
raised_to n s = record { top = n; left = s.left; names = s.names; scopes = s.scopes; bindings = s.bindings }

unfoldable pub charge_of : ℕ → State → Result State Stop
charge_of n s = when ltb s.left n then Err (stop_of OverBudget s) else Ok (paid n s)

-- with so many entries to spare
unfoldable pub enter_of : ℕ → State → Result State Stop
unfolding charge_of
enter_of entries s = when eqb entries 0 then Err (stop_of TooManyEntries s) else charge_of 1 s

-- the words that the state may still come to use end here: what is left of the budget pays for them
abbrev pub end : State → ℕ
end s = s.top + unit_size * s.left

pub record Room (l : List ℕ) (s : State) : Type 0 where
  pub fits : end s ≤ length l
  pub small : length l ≤ table_size
  pub low : 1 ≤ s.top
