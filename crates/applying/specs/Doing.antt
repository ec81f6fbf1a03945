-- What applying a function or a primitive asks and gives, up to what is evaluated next.
use Rattle.std.specs.Prelude.{◌≡◌, List, true, false, ℕ, ◌≤◌, min, Result}
use Rattle.model.specs.Meanings as m
use Rattle.model.specs.Trees.{Tree, Trees, tcount, tsize, substitute}
use Rattle.model.specs.Steps.{Step, ◌>>◌, charge, made_tree}
use Rattle.model.specs.Evaluating.{Expander, primitive_of, takes, wants_use, apply_primitive}
use Rattle.table.specs.declared.Body.{Body}
use Rattle.things.specs.Rep.{Rep}
use Rattle.primitives.specs.Working.{Given}
use Rattle.store.specs.Sizes.{most_bindings}
use Rattle.steps.specs.declared.State.{State}
use Rattle.steps.specs.declared.Stop.{Stop}
use Rattle.steps.specs.declared.Out.{Out}
use Rattle.steps.specs.States.{Store, state_of, Room}
use Rattle.steps.specs.Agreement.{Agrees}
use Rattle.parse.specs.Shown.{trees}
use Rattle.table.specs.Sizes.{most_size}

-- ---- a function: its body, and the argument's value

pub record ReadyFunction (l : List ℕ) (s : State) (body : Body) (x : ℕ) : Type 0 where
  pub thing : Tree
  pub value : Tree
  pub shown : Rep l s.top body.at thing
  pub given : Rep l s.top x value
  pub sized : body.size ≡ min most_size (tsize thing)
  pub room : Room l s
  pub few : s.bindings ≤ most_bindings

-- the function n of body b applied to v, up to its evaluation
unfoldable pub substituted_rule : ℕ → Tree → Tree → Step Tree
unfolding charge made_tree substitute tsize
substituted_rule n v b = do
  charge (tsize b)
  made_tree (substitute n v b)

pub record Substitutes (l l' : List ℕ) (s : State) (n : ℕ) (body : Body) (x : ℕ) (r : Result Out Stop) : Type 0 where
  pub means : (b : Store) (t v : Tree) → Rep l s.top body.at t → Rep l s.top x v → body.size ≡ min most_size (tsize t)
      → Agrees trees 0 0 l l' s b (substituted_rule n v t (state_of s b)) r

-- ---- a primitive of 0 to 6: as many values as it takes

pub record ReadyPrimitive (l : List ℕ) (s : State) (p x y z : ℕ) : Type 0 where
  pub values : Trees
  pub given : Given l s.top x y z values
  pub able : takes (primitive_of p) (tcount values) ≡ true
  pub plain : wants_use (primitive_of p) ≡ false
  pub room : Room l s
  pub few : s.bindings ≤ most_bindings

pub record DoesPrimitive (l l' : List ℕ) (s : State) (p x y z : ℕ) (r : Result Out Stop) : Type 0 where
  pub means : (b : Store) (w : Expander) (q : m.Place) (ts : Trees) → Given l s.top x y z ts → takes (primitive_of p) (tcount ts) ≡ true → wants_use (primitive_of p) ≡ false
      → Agrees trees 0 0 l l' s b (apply_primitive w q (primitive_of p) ts (state_of s b)) r
