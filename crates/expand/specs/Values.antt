-- What evaluating gives to expanding: the value of a right-hand side, and what a macro makes of a marked form.
use Rattle.std.specs.Prelude.{List, ℕ, Result}
use Rattle.model.specs.Objects.{Stx}
use Rattle.model.specs.Trees.{Tree, app, stx, tnil, tcons}
use Rattle.model.specs.Steps.{Entries, Step, ◌>>=◌}
use Rattle.model.specs.Meanings as m
use Rattle.model.specs.Evaluating.{Evaluator}
use Rattle.model.specs.Parsing.{parse}
use Rattle.model.specs.Expanding.{evaluate}
use Rattle.environment.specs.declared.Place.{Place}
use Rattle.environment.specs.Places.{RepPlace}
use Rattle.steps.specs.States.{store_of, Held, state_of, Room}
use Rattle.steps.specs.Agreement.{Agrees}
use Rattle.steps.specs.declared.State.{State}
use Rattle.steps.specs.declared.Out.{Out}
use Rattle.steps.specs.declared.Stop.{Stop}
use Rattle.things.specs.Rep.{Rep}
use Rattle.parse.specs.Shown.{trees}
use Rattle.scoping.specs.Changing.{objects}
use Rattle.expand.specs.Leaves.{back_rule}
use Rattle.table.specs.Sizes.{two_cells, node_spare}

abbrev pub evaluation : ℕ → Evaluator
evaluation entries = λ q t. evaluate entries q t

-- ---- the value of an expanded right-hand side

pub record ReadyValue (l st : List ℕ) (s : State) (i : ℕ) : Type 0 where
  pub thing : Stx
  pub shown : Rep l s.top i (stx thing)
  pub room : Room l s
  pub held : Held st s

unfoldable pub value_rule : Evaluator → Entries → ℕ → Stx → Step Tree
unfolding parse
value_rule value d ph x = do
  t ← parse d ph x
  value m.nowhere t

pub record GivesValue (entries ph : ℕ) (st st' l l' : List ℕ) (s : State) (i : ℕ) (r : Result Out Stop) : Type 0 where
  pub means : (x : Stx) → Rep l s.top i (stx x) → Agrees trees 1 two_cells l l' s (store_of st') (value_rule (evaluation entries) entries ph x (state_of s (store_of st))) r

-- ---- what a macro makes of a marked form

pub record ReadyTranscribed (l st : List ℕ) (s : State) (v form : ℕ) (place : Place) : Type 0 where
  pub value : Tree
  pub thing : Stx
  pub intro : ℕ
  pub here : m.Surroundings
  pub shown : Rep l s.top v value
  pub shown_form : Rep l s.top form (stx thing)
  pub used : RepPlace l s.top place (m.macro_use intro here)
  pub room : Room l s
  pub held : Held st s

unfoldable pub transcribe_rule : Evaluator → ℕ → m.Surroundings → Tree → Stx → Step Stx
unfolding back_rule
transcribe_rule value k here v x = do
  r ← value (m.macro_use k here) (app v (tcons (stx x) tnil))
  back_rule here.phase k r

pub record Transcribes (entries : ℕ) (place : Place) (st st' l l' : List ℕ) (s : State) (v form : ℕ) (r : Result Out Stop) : Type 0 where
  pub means : (t : Tree) (x : Stx) (k : ℕ) (here : m.Surroundings) → Rep l s.top v t → Rep l s.top form (stx x) → RepPlace l s.top place (m.macro_use k here)
      → Agrees objects 1 node_spare l l' s (store_of st') (transcribe_rule (evaluation entries) k here t x (state_of s (store_of st))) r
