-- What a call of expand, parse or evaluate gives, against what the rules compute: over what is computed, and over how it is handed back.
use Rattle.std.specs.Prelude.{◌≡◌, List, ℕ, ◌+◌, ◌≤◌, Result, Ok, Err}
use Rattle.model.specs.Steps as m
use Rattle.model.specs.Steps.{ok, no}
use Rattle.refusals.specs.Refusing.{refusal_of}
use Rattle.store.specs.Rivalry.{rivals_of}
use Rattle.table.specs.Words.{Same}
use Rattle.steps.specs.declared.State.{State}
use Rattle.steps.specs.declared.Stop.{Stop}
use Rattle.steps.specs.declared.Out.{Out}
use Rattle.steps.specs.States.{Store, state_of, end, Room}

-- From table l and state s to l' and s', with at least n units charged. At least `spare` words of those that the units charged pay for are
-- not used: they are for a cell that the caller adds.
pub record Later (n spare : ℕ) (l l' : List ℕ) (s s' : State) : Type 0 where
  pub kept : Same s.top l l'
  pub grows : s.top ≤ s'.top
  pub fits : end s' + spare ≤ end s
  pub spent : s'.left + n ≤ s.left

-- something at i, as Shows says how the table stands for it, and room for the work on it
pub record Ready {A : Type 0} (Shows : List ℕ → ℕ → ℕ → A → Type 0) (l : List ℕ) (s : State) (i : ℕ) : Type 0 where
  pub thing : A
  pub shown : Shows l s.top i thing
  pub room : Room l s

-- how a result of the code stands for a value of the rules, and the state that it holds
pub record Shape (A O : Type 0) : Type 1 where
  pub shows : List ℕ → O → A → Type 0
  pub state : O → State

-- a result that lies in the table
abbrev pub placed : {A : Type 0} → (List ℕ → ℕ → ℕ → A → Type 0) → Shape A Out
placed Shows = record { shows = λ l o x. Shows l o.state.top o.at x; state = λ o. o.state }

-- q is what the rules compute, b what the store stands for afterwards
pub record Gave {A O : Type 0} (S : Shape A O) (n spare : ℕ) (l l' : List ℕ) (s : State) (b : Store) (q : m.Out A) (o : O) : Type 0 where
  pub value : A
  pub is : q ≡ ok value (state_of (S.state o) b)
  pub shown : S.shows l' o value
  pub later : Later n spare l l' s (S.state o)

pub data Agrees {A O : Type 0} (S : Shape A O) (n spare : ℕ) (l l' : List ℕ) (s : State) (b : Store) (q : m.Out A) : Result O Stop → Type 0 where
  gives : (o : O) → Gave S n spare l l' s b q o → Agrees S n spare l l' s b q (Ok o)
  stops : (f : Stop) → q ≡ no (refusal_of f.refusal) (rivals_of f.rivals) f.left → Agrees S n spare l l' s b q (Err f)
