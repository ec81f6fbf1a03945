-- Primitive 8 up to what is expanded: the object with the introduction scope flipped, and the names of its stops.
use Rattle.steps.specs.declared.Stop.{Stop}
use Rattle.std.specs.Prelude.{◌≡◌, List, ℕ, ◌+◌, ◌-◌, ◌≤◌, Result}
use Rattle.std.proofs.Math.Option.{Option, none, some}
use Rattle.model.specs.Choice.{given}
use Rattle.model.specs.Refusals.{wrong_argument}
use Rattle.model.specs.Objects.{Stx, flip_scope}
use Rattle.model.specs.Trees.{Tree, stx, Trees, as_stx, as_list}
use Rattle.model.specs.Meanings as m
use Rattle.model.specs.Meanings.{Env, with_stops}
use Rattle.model.specs.Steps.{Step, ◌>>=◌, ◌>>◌, done, refuse, charge, flip_in}
use Rattle.model.specs.Evaluating.{Expander, Id, as_ids, stop_names}
use Rattle.environment.specs.Meanings.{RepE}
use Rattle.environment.specs.Places.{RepPlace}
use Rattle.environment.specs.declared.Place.{Place}
use Rattle.parse.specs.Parsing.{unpaid}
use Rattle.scopes.specs.Sets.{Declared}
use Rattle.scoping.specs.Changing.{change_rule}
use Rattle.steps.specs.States.{Store, store_of, Held, state_of, Room}
use Rattle.steps.specs.Agreement.{Shape, Agrees}
use Rattle.steps.specs.declared.State.{State}
use Rattle.stops.specs.Stops.{stops_size, RepZ}
use Rattle.store.specs.Sizes.{most_bindings}
use Rattle.table.specs.Sizes.{unit_size, node_spare}
use Rattle.things.specs.Rep.{Rep, RepP}
use Rattle.asking.specs.Answering.{around}
use Rattle.asking.specs.declared.Piece.{Piece}

pub record Opened : Type 0 where
  pub object : Stx
  pub names : List ℕ

pub record ShownPiece (l : List ℕ) (o : Piece) (k : Opened) : Type 0 where
  pub rep : Rep l o.state.top o.at (stx k.object)
  pub stops : RepZ l o.state.top o.stops k.names
  pub few : o.state.bindings ≤ most_bindings

abbrev pub pieces : Shape Opened Piece
pieces = record { shows = λ l o k. ShownPiece l o k; state = λ o. o.state }

-- ---- the flip

unfoldable pub flip_rule : ℕ → ℕ → Stx → List ℕ → Step Opened
unfolding change_rule
flip_rule k ph x zs = do
  y ← change_rule (flip_scope k ph) x
  done (record { object = y; names = zs })

pub record Flips (ph k z : ℕ) (l l' : List ℕ) (s : State) (i : ℕ) (r : Result Piece Stop) : Type 0 where
  pub means : (b : Store) (x : Stx) (zs : List ℕ) → Rep l s.top i (stx x) → RepZ l s.top z zs
      → Agrees pieces 1 node_spare l l' s b (flip_rule k ph x zs (state_of s b)) r

-- ---- by the object and the identifiers

unfoldable pub open_parts : ℕ → m.Surroundings → Stx → List Id → Step Opened
unfolding stop_names flip_in
open_parts k here x ids = do
  z ← stop_names here ids
  y ← flip_in k here.phase x
  done (record { object = y; names = z })

-- what the unit charged and the flip leave over
abbrev pub open_spare : ℕ
open_spare = (unit_size - stops_size) + node_spare

pub record ReadyParts (l st : List ℕ) (s : State) (i c : ℕ) (at : Place) : Type 0 where
  pub thing : Stx
  pub parts : Trees
  pub ids : List Id
  pub shown : Rep l s.top i (stx thing)
  pub chain : RepP l s.top c parts
  pub are : as_ids parts ≡ some ids
  pub meant : Env
  pub known : RepE l s.top at.meanings meant
  pub declared : Declared at.intro
  pub room : Room l s
  pub held : Held st s

pub record OpensParts (at : Place) (st l l' : List ℕ) (s : State) (i c : ℕ) (r : Result Piece Stop) : Type 0 where
  pub means : (x : Stx) (ts : Trees) (ids : List Id) (e : Env) (zs : List ℕ) → Rep l s.top i (stx x) → RepP l s.top c ts → as_ids ts ≡ some ids → RepE l s.top at.meanings e
      → Agrees pieces 2 open_spare l l' (unpaid s) (store_of st) (open_parts at.intro.0 (around e zs at) x ids (state_of s (store_of st))) r

-- ---- by two values, of whatever kind

unfoldable pub or_wrong : {A B : Type 0} → Option A → (A → Step B) → Step B
or_wrong none f = refuse wrong_argument
or_wrong (some a) f = f a

unfoldable pub open_rule : ℕ → m.Surroundings → Tree → Tree → Step Opened
unfolding or_wrong as_stx as_list as_ids open_parts
open_rule k here a b = or_wrong (as_stx a) (λ x. or_wrong (given (as_list b) as_ids) (λ ids. open_parts k here x ids))

-- what is done with it
unfoldable pub close_rule : Expander → ℕ → m.Surroundings → Opened → Step Tree
unfolding flip_in
close_rule expander k here o = do
  r ← expander (with_stops o.names here) o.object
  back ← flip_in k here.phase r
  done (stx back)

unfoldable pub opened_rule : ℕ → m.Surroundings → Tree → Tree → Step Opened
unfolding charge open_rule
opened_rule k here a b = do
  charge 1
  open_rule k here a b

pub record ReadyToOpen (l st : List ℕ) (s : State) (i j : ℕ) (at : Place) : Type 0 where
  pub first : Tree
  pub second : Tree
  pub shown : Rep l s.top i first
  pub shown-second : Rep l s.top j second
  pub intro : ℕ
  pub here : m.Surroundings
  pub used : RepPlace l s.top at (m.macro_use intro here)
  pub room : Room l s
  pub held : Held st s

pub record OpensPaid (at : Place) (st l l' : List ℕ) (s : State) (i j : ℕ) (r : Result Piece Stop) : Type 0 where
  pub means : (a b : Tree) (k : ℕ) (here : m.Surroundings) → Rep l s.top i a → Rep l s.top j b → RepPlace l s.top at (m.macro_use k here)
      → Agrees pieces 2 open_spare l l' (unpaid s) (store_of st) (open_rule k here a b (state_of s (store_of st))) r

pub record Opens (at : Place) (st l l' : List ℕ) (s : State) (i j : ℕ) (r : Result Piece Stop) : Type 0 where
  pub means : (a b : Tree) (k : ℕ) (here : m.Surroundings) → Rep l s.top i a → Rep l s.top j b → RepPlace l s.top at (m.macro_use k here)
      → Agrees pieces 2 open_spare l l' s (store_of st) (opened_rule k here a b (state_of s (store_of st))) r
