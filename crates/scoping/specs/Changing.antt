-- A change of an object, charged its size.
use Rattle.std.specs.Prelude.{List, ℕ, ◌≤◌, Result}
use Rattle.store.specs.Sizes.{most_bindings}
use Rattle.model.specs.Objects.{Stx, size}
use Rattle.model.specs.Trees.{stx}
use Rattle.model.specs.Steps.{Step, ◌>>◌, done, charge}
use Rattle.steps.specs.States.{Store, state_of, Room}
use Rattle.steps.specs.Agreement.{Shape, Agrees}
use Rattle.steps.specs.declared.State.{State}
use Rattle.steps.specs.declared.Stop.{Stop}
use Rattle.steps.specs.declared.Out.{Out}
use Rattle.things.specs.Rep.{Rep}
use Rattle.table.specs.Sizes.{node_spare}

pub record ShownObject (l : List ℕ) (o : Out) (x : Stx) : Type 0 where
  pub rep : Rep l o.state.top o.at (stx x)
  pub few : o.state.bindings ≤ most_bindings

abbrev pub objects : Shape Stx Out
objects = record { shows = λ l o x. ShownObject l o x; state = λ o. o.state }

pub record ReadyObject (l : List ℕ) (s : State) (i : ℕ) : Type 0 where
  pub thing : Stx
  pub shown : Rep l s.top i (stx thing)
  pub room : Room l s
  pub few : s.bindings ≤ most_bindings

unfoldable pub change_rule : (Stx → Stx) → Stx → Step Stx
unfolding charge size
change_rule g x = do
  charge (size x)
  done (g x)

-- a unit pays for a node and the cell in its whole, and leaves 3 words; the whole object has no cell
pub record Changes (g : Stx → Stx) (l l' : List ℕ) (s : State) (i : ℕ) (r : Result Out Stop) : Type 0 where
  pub means : (b : Store) (x : Stx) → Rep l s.top i (stx x) → Agrees objects 1 node_spare l l' s b (change_rule g x (state_of s b)) r
