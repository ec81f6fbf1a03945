-- What a form leaves to be expanded in its place, and what a macro makes of its use: what is asked and given.
use Rattle.std.specs.Prelude.{◌≡◌, List, ℕ, ◌+◌, ◌≤◌, ◌<◌, leb, Result}
use Rattle.model.specs.Limits.{last_phase}
use Rattle.model.specs.Refusals.{no_phase}
use Rattle.model.specs.Scopes.{no_scopes, add}
use Rattle.model.specs.Objects.{Sets, Stx}
use Rattle.model.specs.Trees.{Tree, stx}
use Rattle.model.specs.Steps.{Entries, Step, ◌>>=◌, ◌>>◌, done, unless, add_to, inside}
use Rattle.model.specs.Meanings as m
use Rattle.model.specs.Meanings.{Meaning, macro}
use Rattle.model.specs.Evaluating.{Evaluator, Expander}
use Rattle.model.specs.Expanding as rules
use Rattle.model.specs.Expanding.{bind_fresh, of_right_hand_side, of_body}
use Rattle.scopes.specs.Sets.{Declared}
use Rattle.store.specs.Sizes.{most_bindings}
use Rattle.steps.specs.States.{Store, store_of, state_of, Room}
use Rattle.steps.specs.Agreement.{Shape, Agrees}
use Rattle.steps.specs.declared.State.{State}
use Rattle.steps.specs.declared.Out.{Out}
use Rattle.steps.specs.declared.Stop.{Stop}
use Rattle.things.specs.Rep.{Rep}
use Rattle.environment.specs.Meanings.{most_names, Meant}
use Rattle.scoping.specs.Changing.{objects}
use Rattle.scoping.specs.declared.Binder.{Binder}
use Rattle.expand.specs.Leaves.{Around, around, RepA, Within, used_rule}
use Rattle.expand.specs.Values.{evaluation, value_rule, transcribe_rule}
use Rattle.expand.specs.declared.Surroundings.{Surroundings}
use Rattle.expand.specs.declared.rewriting.Next.{Next}
use Rattle.table.specs.Sizes.{cell_size, node_spare}

-- a body, where it is expanded, and the scope that is prunable in it
pub record Further : Type 0 where
  pub object : Stx
  pub there : m.Surroundings
  pub scope : ℕ

abbrev pub further_rule : Expander → Further → Step Stx
further_rule self k = inside (add k.scope) (self k.there k.object)

-- from where the form is expanded: with other meanings
abbrev pub further : Next → Surroundings → Surroundings
further o at = record { entries = at.entries; phase = at.phase; meanings = o.meanings; stops = at.stops }

pub record ShownNext (at : Surroundings) (l : List ℕ) (o : Next) (k : Further) : Type 0 where
  pub meant : Around
  pub rep : Rep l o.state.top o.at (stx k.object)
  pub known : RepA l o.state.top (further o at) meant
  pub there : k.there ≡ around meant at
  pub scope : o.scope.0 ≡ k.scope
  pub declared : Declared o.scope
  pub few : o.state.bindings ≤ most_bindings

abbrev pub nexts : Surroundings → Shape Further Next
nexts at = record { shows = λ l o k. ShownNext at l o k; state = λ o. o.state }

-- b has the name and the scope of k
pub record Named (b : Binder) (k : rules.Binder) : Type 0 where
  pub name : b.name.0 ≡ k.name
  pub scope : b.scope.0 ≡ k.scope
  pub declared : Declared b.scope
  pub small : b.name.0 < most_names

-- ---- the body, in a new scope

pub record ReadyScoped (l : List ℕ) (s : State) (b : Binder) (kind thing body : ℕ) (at : Surroundings) : Type 0 where
  pub binder : rules.Binder
  pub meaning : Meaning
  pub object : Stx
  pub meant : Around
  pub named : Named b binder
  pub shown : Meant l s.top kind thing meaning
  pub shown_body : Rep l s.top body (stx object)
  pub known : RepA l s.top at meant
  pub room : Room l s
  pub few : s.bindings ≤ most_bindings

unfoldable pub scoped_rule : m.Surroundings → rules.Binder → Meaning → Stx → Step Further
unfolding add_to
scoped_rule here b w body = do
  in_scope_lem ← add_to b.scope here.phase body
  done (record { object = in_scope_lem; there = of_body b w here; scope = b.scope })

pub record Scoped (at : Surroundings) (l l' : List ℕ) (s : State) (b : Binder) (kind thing body : ℕ) (r : Result Next Stop) : Type 0 where
  pub means : (q : Store) (k : rules.Binder) (w : Meaning) (y : Stx) (e : Around) → Named b k → Meant l s.top kind thing w → Rep l s.top body (stx y) → RepA l s.top at e
      → Agrees (nexts at) 1 cell_size l l' s q (scoped_rule (around e at) k w y (state_of s q)) r

-- ---- the body, with the value of an expanded right-hand side

pub record ReadyDefined (l st : List ℕ) (s : State) (b : Binder) (right body : ℕ) (at : Surroundings) : Type 0 where
  pub binder : rules.Binder
  pub thing : Stx
  pub object : Stx
  pub named : Named b binder
  pub shown : Rep l s.top right (stx thing)
  pub shown_body : Rep l s.top body (stx object)
  pub within : Within l st s at
  pub low : at.phase + 1 ≤ last_phase

unfoldable pub defined_rule : Evaluator → Entries → m.Surroundings → rules.Binder → Stx → Stx → Step Further
unfolding value_rule scoped_rule
defined_rule value d here b right body = do
  v ← value_rule value d (here.phase + 1) right
  scoped_rule here b (macro v) body

pub record Defined (at : Surroundings) (st st' l l' : List ℕ) (s : State) (b : Binder) (right body : ℕ) (r : Result Next Stop) : Type 0 where
  pub means : (k : rules.Binder) (u y : Stx) (e : Around) → Named b k → Rep l s.top right (stx u) → Rep l s.top body (stx y) → RepA l s.top at e
      → Agrees (nexts at) 1 cell_size l l' s (store_of st') (defined_rule (evaluation at.entries) at.entries (around e at) k u y (state_of s (store_of st))) r

-- ---- the right-hand side, expanded one phase up, and the binder before it

unfoldable pub rhs_rule : Expander → Evaluator → Entries → m.Surroundings → rules.Binder → Stx → Stx → Step Further
unfolding defined_rule inside last_phase
rhs_rule self value d here b right body = do
  unless no_phase (leb (here.phase + 1) last_phase)
  r ← inside (λ p. no_scopes) (self (of_right_hand_side here) right)
  defined_rule value d here b r body

unfoldable pub binding_rule : Expander → Evaluator → Entries → m.Surroundings → Sets → ℕ → Stx → Stx → Step Further
unfolding bind_fresh rhs_rule
binding_rule self value d here c x right body = do
  b ← bind_fresh here.phase c x
  rhs_rule self value d here b right body

-- ---- what a macro makes of its use

pub record ReadyMacro (l st : List ℕ) (s : State) (i v : ℕ) (at : Surroundings) : Type 0 where
  pub value : Tree
  pub thing : Stx
  pub shown : Rep l s.top i (stx thing)
  pub shown-value : Rep l s.top v value
  pub within : Within l st s at

unfoldable pub rewritten_rule : Evaluator → m.Surroundings → Tree → Stx → Step Stx
unfolding used_rule transcribe_rule
rewritten_rule value here v x = do
  k ← used_rule here.phase x
  transcribe_rule value k.intro here v k.object

pub record Rewritten (at : Surroundings) (st st' l l' : List ℕ) (s : State) (i v : ℕ) (r : Result Out Stop) : Type 0 where
  pub means : (y : Stx) (t : Tree) (e : Around) → Rep l s.top i (stx y) → Rep l s.top v t → RepA l s.top at e
      → Agrees objects 1 node_spare l l' s (store_of st') (rewritten_rule (evaluation at.entries) (around e at) t y (state_of s (store_of st))) r
