-- What the functions of evaluating ask and give.
use Rattle.std.specs.Prelude.{◌≡◌, List, true, ℕ, ◌≤◌, length, Result}
use Rattle.model.specs.Refusals.{not_applicable, outside_use}
use Rattle.model.specs.Meanings as m
use Rattle.model.specs.Trees.{Tree, Trees, tcons, app, tcount}
use Rattle.model.specs.Steps.{Step, ◌>>=◌, ◌>>◌, unless, charge}
use Rattle.model.specs.Evaluating.{Evaluator, Expander, expand_in, applicable, allowed, each_tree, argument, apply_local, apply, eval_entry}
use Rattle.model.specs.Expanding.{evaluate}
use Rattle.things.specs.Rep.{Rep, RepP}
use Rattle.primitives.specs.Working.{Given}
use Rattle.environment.specs.declared.Place.{Place}
use Rattle.environment.specs.Places.{RepPlace}
use Rattle.store.specs.Sizes.{most_bindings, held_size}
use Rattle.steps.specs.declared.State.{State}
use Rattle.steps.specs.declared.Out.{Out}
use Rattle.steps.specs.declared.Stop.{Stop}
use Rattle.steps.specs.States.{store_of, Held, state_of, Room}
use Rattle.steps.specs.Agreement.{Shape, Agrees}
use Rattle.parse.specs.Shown.{trees}
use Rattle.applying.specs.declared.Values.{Values}
use Rattle.expand.specs.Values.{evaluation}
use Rattle.expand.specs.Cycle.{expansion}
use Rattle.table.specs.Sizes.{unit_size}

-- ---- what is asked

-- where a tree is evaluated, and room. Only a macro's use asks for the store
pub record Placed (l st : List ℕ) (s : State) (place : Place) : Type 0 where
  pub where_it_is : m.Place
  pub stands : RepPlace l s.top place where_it_is
  pub room : Room l s
  pub few : s.bindings ≤ most_bindings
  pub wide : (k : ℕ) (here : m.Surroundings) → where_it_is ≡ m.macro_use k here → held_size ≤ length st

pub record ReadyToEvaluate (l st : List ℕ) (s : State) (i : ℕ) (place : Place) : Type 0 where
  pub thing : Tree
  pub shown : Rep l s.top i thing
  pub placed : Placed l st s place

-- a chain of a head and arguments
pub record ReadyApplication (l st : List ℕ) (s : State) (c : ℕ) (place : Place) : Type 0 where
  pub first : Tree
  pub others : Trees
  pub shown : RepP l s.top c (tcons first others)
  pub placed : Placed l st s place

-- a value, and the trees of the arguments
pub record ReadyCall (l st : List ℕ) (s : State) (f c : ℕ) (place : Place) : Type 0 where
  pub value : Tree
  pub things : Trees
  pub shown : Rep l s.top f value
  pub shown-parts : RepP l s.top c things
  pub placed : Placed l st s place

pub record ReadyEach (l st : List ℕ) (s : State) (c : ℕ) (place : Place) : Type 0 where
  pub things : Trees
  pub shown : RepP l s.top c things
  pub placed : Placed l st s place

-- a value, and the values of as many arguments as it takes
pub record ReadyApply (l st : List ℕ) (f : ℕ) (v : Values) (place : Place) : Type 0 where
  pub value : Tree
  pub values : Trees
  pub shown : Rep l v.state.top f value
  pub given : Given l v.state.top v.x v.y v.z values
  pub able : applicable value (tcount values) ≡ true
  pub placed : Placed l st v.state place
  pub permitted : allowed placed.where_it_is value ≡ true

-- the two values of 8, in a macro's use
pub record ReadyWithin (l st : List ℕ) (v : Values) (place : Place) : Type 0 where
  pub values : Trees
  pub given : Given l v.state.top v.x v.y v.z values
  pub two : 2 ≤ tcount values
  pub intro : ℕ
  pub here : m.Surroundings
  pub used : RepPlace l v.state.top place (m.macro_use intro here)
  pub room : Room l v.state
  pub held : Held st v.state

-- ---- parts of the rules that have no name there

-- an application whose head's value is f
unfoldable pub call_of : Evaluator → Expander → m.Place → Tree → Trees → Step Tree
unfolding applicable allowed tcount each_tree apply
call_of self expander q f l = do
  unless not_applicable (applicable f (tcount l))
  unless outside_use (allowed q f)
  vs ← each_tree (self q) l
  apply self expander q f vs

-- 8 of two values
unfoldable pub within_of : Expander → m.Place → Trees → Step Tree
unfolding charge apply_local argument
within_of expander q l = do
  charge 1
  apply_local expander q expand_in (argument l 0) (argument l 1)

-- ---- what is given

pub record ShownValues (l : List ℕ) (o : Values) (ts : Trees) : Type 0 where
  pub given : Given l o.state.top o.x o.y o.z ts
  pub few : o.state.bindings ≤ most_bindings

abbrev pub valued : Shape Trees Values
valued = record { shows = λ l o ts. ShownValues l o ts; state = λ o. o.state }

module _ (entries : ℕ) (place : Place) (st st' l l' : List ℕ) (s : State) where
  -- an entry charges at least one unit, and needs none of the words that it pays for
  pub record Evaluates (i : ℕ) (r : Result Out Stop) : Type 0 where
    pub means : (t : Tree) (q : m.Place) → Rep l s.top i t → RepPlace l s.top place q
        → Agrees trees 1 unit_size l l' s (store_of st') (evaluate entries q t (state_of s (store_of st))) r

  pub record Forms (i : ℕ) (r : Result Out Stop) : Type 0 where
    pub means : (t : Tree) (q : m.Place) → Rep l s.top i t → RepPlace l s.top place q
        → Agrees trees 0 0 l l' s (store_of st') (eval_entry (evaluation entries) (expansion entries) q t (state_of s (store_of st))) r

  pub record Applies (c : ℕ) (r : Result Out Stop) : Type 0 where
    pub means : (t : Tree) (ts : Trees) (q : m.Place) → RepP l s.top c (tcons t ts) → RepPlace l s.top place q
        → Agrees trees 0 0 l l' s (store_of st') (eval_entry (evaluation entries) (expansion entries) q (app t ts) (state_of s (store_of st))) r

  pub record Calls (f c : ℕ) (r : Result Out Stop) : Type 0 where
    pub means : (t : Tree) (ts : Trees) (q : m.Place) → Rep l s.top f t → RepP l s.top c ts → RepPlace l s.top place q
        → Agrees trees 0 0 l l' s (store_of st') (call_of (evaluation entries) (expansion entries) q t ts (state_of s (store_of st))) r

  pub record Gathers (c : ℕ) (r : Result Values Stop) : Type 0 where
    pub means : (ts : Trees) (q : m.Place) → RepP l s.top c ts → RepPlace l s.top place q
        → Agrees valued 0 0 l l' s (store_of st') (each_tree (evaluation entries q) ts (state_of s (store_of st))) r

module _ (entries : ℕ) (place : Place) (st st' l l' : List ℕ) where
  pub record Does (f : ℕ) (v : Values) (r : Result Out Stop) : Type 0 where
    pub means : (t : Tree) (ts : Trees) (q : m.Place) → Rep l v.state.top f t → Given l v.state.top v.x v.y v.z ts → RepPlace l v.state.top place q
        → applicable t (tcount ts) ≡ true → allowed q t ≡ true
        → Agrees trees 0 0 l l' v.state (store_of st') (apply (evaluation entries) (expansion entries) q t ts (state_of v.state (store_of st))) r

  pub record DoesWithin (v : Values) (r : Result Out Stop) : Type 0 where
    pub means : (ts : Trees) (k : ℕ) (here : m.Surroundings) → Given l v.state.top v.x v.y v.z ts → 2 ≤ tcount ts → RepPlace l v.state.top place (m.macro_use k here)
        → Agrees trees 0 0 l l' v.state (store_of st') (within_of (expansion entries) (m.macro_use k here) ts (state_of v.state (store_of st))) r
