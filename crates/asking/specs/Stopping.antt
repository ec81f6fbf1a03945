-- The names of the stops of a local expansion, and their bits.
use Rattle.std.specs.Prelude.{◌≡◌, Bool, List, [], ◌∷◌, ◌++◌, ℕ, ◌+◌, ◌≤◌, length, Result}
use Rattle.std.proofs.Math.Option.{some}
use Rattle.model.specs.Refusals.{wrong_argument}
use Rattle.model.specs.Objects.{symbol, atom}
use Rattle.model.specs.Trees.{stx, Trees}
use Rattle.model.specs.Meanings as m
use Rattle.model.specs.Meanings.{Env, meaning}
use Rattle.model.specs.Steps.{Step, ◌>>=◌, ◌>>◌, done, unless, resolve_at}
use Rattle.model.specs.Evaluating.{Id, as_ids, known, stop_names}
use Rattle.environment.specs.Meanings.{RepE}
use Rattle.environment.specs.declared.Place.{Place}
use Rattle.steps.specs.States.{Store, store_of, Held, state_of}
use Rattle.steps.specs.Agreement.{Shape, Agrees}
use Rattle.steps.specs.declared.State.{State}
use Rattle.steps.specs.declared.Stop.{Stop}
use Rattle.stops.specs.Stops.{stops_size, Bits}
use Rattle.table.specs.Sizes.{table_size}
use Rattle.things.specs.Rep.{Rep, RepP}
use Rattle.asking.specs.Answering.{around}

-- the stops of before are not asked for
pub record HasMeaning (l : List ℕ) (e n : ℕ) (r : Bool) : Type 0 where
  pub means : (top : ℕ) (env : Env) → RepE l top e env → r ≡ known (meaning n env)

-- ---- one name more

-- the bits lie at the state's first free word
pub record Lying (l : List ℕ) (s : State) : Type 0 where
  pub fits : s.top + stops_size ≤ length l
  pub small : length l ≤ table_size

pub record ShownStop (s : State) (l l' : List ℕ) (o : State) (n : ℕ) : Type 0 where
  pub same : o ≡ s
  pub told : (zs : List ℕ) → Bits l s.top zs → Bits l' s.top (zs ++ n ∷ [])

abbrev pub one_more : State → List ℕ → Shape ℕ State
one_more s l = record { shows = λ l' o n. ShownStop s l l' o n; state = λ o. o }

unfoldable pub named_rule : Env → ℕ → Step ℕ
unfolding meaning known
named_rule e n = do
  unless wrong_argument (known (meaning n e))
  done n

pub record ReadyNamed (l : List ℕ) (s : State) (e : ℕ) : Type 0 where
  pub meant : Env
  pub known : RepE l s.top e meant
  pub lying : Lying l s

pub record StopsNamed (e : ℕ) (l l' : List ℕ) (s : State) (n : ℕ) (r : Result State Stop) : Type 0 where
  pub means : (b : Store) (env : Env) → RepE l s.top e env → Agrees (one_more s l) 0 0 l l' s b (named_rule env n (state_of s b)) r

-- ---- of an identifier

unfoldable pub stop_rule : m.Surroundings → Id → Step ℕ
unfolding resolve_at named_rule
stop_rule here d = do
  n ← resolve_at here.phase d.sets d.symb
  named_rule here.meanings n

pub record ReadyStop (l st : List ℕ) (s : State) (i : ℕ) (at : Place) : Type 0 where
  pub id : Id
  pub shown : Rep l s.top i (stx (atom id.sets (symbol id.symb)))
  pub meant : Env
  pub known : RepE l s.top at.meanings meant
  pub lying : Lying l s
  pub held : Held st s

pub record StopsOne (at : Place) (st l l' : List ℕ) (s : State) (i : ℕ) (r : Result State Stop) : Type 0 where
  pub means : (d : Id) (e : Env) (zs : List ℕ) → Rep l s.top i (stx (atom d.sets (symbol d.symb))) → RepE l s.top at.meanings e
      → Agrees (one_more s l) 0 0 l l' s (store_of st) (stop_rule (around e zs at) d (state_of s (store_of st))) r

-- ---- of a chain of identifiers

pub record ShownNames (s : State) (l : List ℕ) (o : State) (zs : List ℕ) : Type 0 where
  pub same : o ≡ s
  pub bits : Bits l s.top zs

abbrev pub named : State → Shape (List ℕ) State
named s = record { shows = λ l o zs. ShownNames s l o zs; state = λ o. o }

pub record ReadyStops (l st : List ℕ) (s : State) (c : ℕ) (at : Place) : Type 0 where
  pub parts : Trees
  pub ids : List Id
  pub shown : RepP l s.top c parts
  pub are : as_ids parts ≡ some ids
  pub meant : Env
  pub known : RepE l s.top at.meanings meant
  pub lying : Lying l s
  pub held : Held st s
  pub bits : Bits l s.top []

pub record StopsAll (at : Place) (st l l' : List ℕ) (s : State) (c : ℕ) (r : Result State Stop) : Type 0 where
  pub means : (ts : Trees) (ids : List Id) (e : Env) (zs : List ℕ) → RepP l s.top c ts → as_ids ts ≡ some ids → RepE l s.top at.meanings e
      → Agrees (named s) 0 0 l l' s (store_of st) (stop_names (around e zs at) ids (state_of s (store_of st))) r
