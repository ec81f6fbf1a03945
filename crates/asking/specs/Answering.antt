-- Primitives 7 and 9: what a name means, and an identifier fit to bind.
use Rattle.std.specs.Prelude.{List, ℕ, eqb, Result}
use Rattle.model.specs.Choice.{when◌then◌else◌}
use Rattle.model.specs.Objects.{symbol, atom}
use Rattle.model.specs.Trees.{Tree, stx}
use Rattle.model.specs.Meanings as m
use Rattle.model.specs.Meanings.{Env}
use Rattle.model.specs.Steps.{Step, ◌>>◌, charge}
use Rattle.model.specs.Evaluating.{Id, or_wrong_kind, as_id, value_of, fit_to_bind}
use Rattle.environment.specs.Meanings.{RepE}
use Rattle.environment.specs.Places.{RepPlace}
use Rattle.environment.specs.declared.Place.{Place}
use Rattle.parse.specs.Shown.{trees}
use Rattle.steps.specs.States.{store_of, Held, state_of, Room}
use Rattle.steps.specs.Agreement.{Agrees}
use Rattle.steps.specs.declared.State.{State}
use Rattle.steps.specs.declared.Stop.{Stop}
use Rattle.steps.specs.declared.Out.{Out}
use Rattle.stops.specs.Stops.{RepZ}
use Rattle.table.specs.Sizes.{unit_size}
use Rattle.things.specs.Rep.{Rep}

-- where the macro is used, with these meanings and stops
abbrev pub around : Env → List ℕ → Place → m.Surroundings
around e zs at = record { phase = at.phase; meanings = e; stops = zs }

-- ---- an identifier

pub record ReadyId (l st : List ℕ) (s : State) (i : ℕ) (at : Place) : Type 0 where
  pub id : Id
  pub shown : Rep l s.top i (stx (atom id.sets (symbol id.symb)))
  pub meant : Env
  pub known : RepE l s.top at.meanings meant
  pub names : List ℕ
  pub stopping : RepZ l s.top at.stops names
  pub room : Room l s
  pub held : Held st s

pub record AsksMeaning (at : Place) (st l : List ℕ) (s : State) (i : ℕ) (r : Result Out Stop) : Type 0 where
  pub means : (d : Id) (e : Env) (zs : List ℕ) → Rep l s.top i (stx (atom d.sets (symbol d.symb))) → RepE l s.top at.meanings e → RepZ l s.top at.stops zs
      → Agrees trees 0 0 l l s (store_of st) (value_of (around e zs at) d (state_of s (store_of st))) r

pub record FitsToBind (ph : ℕ) (st l l' : List ℕ) (s : State) (i : ℕ) (r : Result Out Stop) : Type 0 where
  pub means : (d : Id) → Rep l s.top i (stx (atom d.sets (symbol d.symb)))
      → Agrees trees 0 0 l l' s (store_of st) (fit_to_bind ph d (state_of s (store_of st))) r

-- ---- a value, of whatever kind, in a macro's use

pub record ReadyToAsk (l st : List ℕ) (s : State) (i : ℕ) (at : Place) : Type 0 where
  pub thing : Tree
  pub shown : Rep l s.top i thing
  pub intro : ℕ
  pub here : m.Surroundings
  pub used : RepPlace l s.top at (m.macro_use intro here)
  pub room : Room l s
  pub held : Held st s

-- primitive p after its charge: 7, or else 9
unfoldable pub asked_rule : ℕ → m.Surroundings → Tree → Step Tree
unfolding or_wrong_kind as_id value_of fit_to_bind
asked_rule p here t = or_wrong_kind (as_id t) (λ i. when eqb p 7 then value_of here i else fit_to_bind here.phase i)

unfoldable pub answer_rule : ℕ → m.Surroundings → Tree → Step Tree
unfolding charge asked_rule
answer_rule p here t = do
  charge 1
  asked_rule p here t

pub record AnswersPaid (p : ℕ) (at : Place) (st l l' : List ℕ) (s : State) (i : ℕ) (r : Result Out Stop) : Type 0 where
  pub means : (t : Tree) (k : ℕ) (here : m.Surroundings) → Rep l s.top i t → RepPlace l s.top at (m.macro_use k here)
      → Agrees trees 0 0 l l' s (store_of st) (asked_rule p here t (state_of s (store_of st))) r

pub record Answers (p : ℕ) (at : Place) (st l l' : List ℕ) (s : State) (i : ℕ) (r : Result Out Stop) : Type 0 where
  pub means : (t : Tree) (k : ℕ) (here : m.Surroundings) → Rep l s.top i t → RepPlace l s.top at (m.macro_use k here)
      → Agrees trees 1 unit_size l l' s (store_of st) (answer_rule p here t (state_of s (store_of st))) r
