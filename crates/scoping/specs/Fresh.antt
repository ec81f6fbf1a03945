-- Fresh names and scopes, binders, and the marks of a macro's use.
use Rattle.std.specs.Prelude.{◌≡◌, List, ℕ, ◌+◌, ◌≤◌, ◌<◌, leb, Result, Ok, Err}
use Rattle.store.specs.Sizes.{most_bindings}
use Rattle.model.specs.Choice.{when◌then◌else◌}
use Rattle.model.specs.Scopes.{add}
use Rattle.model.specs.Objects.{Sets, set_at, change_at, symbol, Stx, atom, add_scope, flip_scope}
use Rattle.model.specs.Trees.{stx}
use Rattle.model.specs.Steps.{Step, ◌>>=◌, ◌>>◌, done, charge, fresh_name, fresh_scope, bind}
use Rattle.model.specs.Expanding as m
use Rattle.model.specs.Expanding.{bind_fresh}
use Rattle.refusals.specs.declared.Refusal.TheVariants.{NoScopeLeft}
use Rattle.scopes.specs.Sets.{Declared, set_scopes}
use Rattle.scopes.specs.declared.Name.{Name}
use Rattle.scopes.specs.declared.Scope.{Scope}
use Rattle.store.specs.Words.{bind_of}
use Rattle.store.specs.declared.bindings.Binding.{Binding}
use Rattle.steps.specs.States.{Store, store_of, Held, state_of, stop_of, Room}
use Rattle.steps.specs.Agreement.{Shape, Agrees}
use Rattle.steps.specs.declared.State.{State}
use Rattle.steps.specs.declared.Stop.{Stop}
use Rattle.things.specs.Rep.{Rep}
use Rattle.copying.specs.Copying.{Copied}
use Rattle.parse.specs.Parsing.{unpaid}
use Rattle.scoping.specs.Changing.{change_rule}
use Rattle.scoping.specs.declared.Binder.{Binder}
use Rattle.scoping.specs.declared.Mark.{Mark}
use Rattle.table.specs.Sizes.{node_spare, unit_size}

-- ---- the next name and scope

pub record Taken : Type 0 where
  pub name : ℕ
  pub scope : ℕ

unfoldable pub take_rule : Step Taken
unfolding fresh_name fresh_scope charge
take_rule = do
  n ← fresh_name
  k ← fresh_scope
  charge 1
  done (record { name = n; scope = k })

pub record ShownTaken (o : State) (k : Taken) (next : ℕ) : Type 0 where
  pub name : k.name ≡ next
  -- below the model's most_names
  pub small : next < 1024
  pub scope : o.scopes ≡ k.scope
  pub from_one : 1 ≤ o.scopes
  pub most : o.scopes ≤ set_scopes
  pub few : o.bindings ≤ most_bindings

abbrev pub taken : ℕ → Shape Taken State
taken next = record { shows = λ l o k. ShownTaken o k next; state = λ o. o }

pub record Takes (s : State) (r : Result State Stop) : Type 0 where
  pub means : (l : List ℕ) (b : Store) → Agrees (taken s.names) 1 unit_size l l s b (take_rule (state_of s b)) r

-- ---- a binding put into the store

pub record Keys (l : List ℕ) (i name ph : ℕ) (r : Binding) : Type 0 where
  pub means : (top : ℕ) (c : Sets) (x : ℕ) → Rep l top i (stx (atom c (symbol x))) → bind_of r ≡ record { symb = x; target = name; set = set_at ph c }

pub record Few (o : State) : Type 0 where
  pub few : o.bindings ≤ most_bindings

abbrev pub puts : Shape (Unit {0}) State
puts = record { shows = λ l o k. Few o; state = λ o. o }

pub record Puts (st st' : List ℕ) (s : State) (b : Binding) (r : Result State Stop) : Type 0 where
  pub means : (l : List ℕ) → Agrees puts 0 0 l l s (store_of st') (bind (bind_of b) (state_of s (store_of st))) r

-- with the binder that it is for
pub record ShownPut (n : Name) (k : Scope) (at : ℕ) (o : Binder) : Type 0 where
  pub name : o.name ≡ n
  pub scope : o.scope ≡ k
  pub place : o.at ≡ at
  pub few : o.state.bindings ≤ most_bindings

abbrev pub puts_binder : Name → Scope → ℕ → Shape (Unit {0}) Binder
puts_binder n k at = record { shows = λ l o w. ShownPut n k at o; state = λ o. o.state }

pub record PutsBinder (n : Name) (k : Scope) (at : ℕ) (st st' : List ℕ) (s : State) (b : Binding) (r : Result Binder Stop) : Type 0 where
  pub means : (l : List ℕ) → Agrees (puts_binder n k at) 0 0 l l s (store_of st') (bind (bind_of b) (state_of s (store_of st))) r

-- ---- a binder

pub record ReadyBinder (l st : List ℕ) (s : State) (i : ℕ) : Type 0 where
  pub sets : Sets
  pub symb : ℕ
  pub shown : Rep l s.top i (stx (atom sets (symbol symb)))
  pub room : Room l s
  pub held : Held st s

-- the binder with symbol x
pub record ShownBinder (x : ℕ) (l : List ℕ) (o : Binder) (k : m.Binder) : Type 0 where
  pub name : o.name.0 ≡ k.name
  pub small : o.name.0 < 1024
  pub scope : o.scope.0 ≡ k.scope
  pub declared : Declared o.scope
  pub rep : Rep l o.state.top o.at (stx (atom k.sets (symbol x)))
  pub few : o.state.bindings ≤ most_bindings

abbrev pub binders : ℕ → Shape m.Binder Binder
binders x = record { shows = λ l o k. ShownBinder x l o k; state = λ o. o.state }

unfoldable pub bind_rule : ℕ → ℕ → ℕ → Sets → ℕ → Step m.Binder
unfolding bind set_at change_at add
bind_rule n k ph c x = do
  bind (record { symb = x; target = n; set = set_at ph (change_at (add k) ph c) })
  done (record { name = n; scope = k; sets = change_at (add k) ph c })

-- the object with the scope added
pub record Added (ph k : ℕ) (l l' : List ℕ) (top i at top' : ℕ) : Type 0 where
  pub copied : Copied (λ x. stx (add_scope k ph x)) l l' top i at top'

-- the unit charged before pays for the binder
pub record Binds (ph : ℕ) (st st' l l' : List ℕ) (s : State) (name scope i : ℕ) (r : Result Binder Stop) : Type 0 where
  pub means : (c : Sets) (x : ℕ) → Rep l s.top i (stx (atom c (symbol x)))
      → Agrees (binders x) 1 node_spare l l' (unpaid s) (store_of st') (bind_rule name scope ph c x (state_of s (store_of st))) r

pub record BindsFresh (ph : ℕ) (st st' l l' : List ℕ) (s : State) (i : ℕ) (r : Result Binder Stop) : Type 0 where
  pub means : (c : Sets) (x : ℕ) → Rep l s.top i (stx (atom c (symbol x)))
      → Agrees (binders x) 1 node_spare l l' s (store_of st') (bind_fresh ph c x (state_of s (store_of st))) r

-- ---- the marks of a macro's use

unfoldable pub fresh_scope_of : State → Result State Stop
fresh_scope_of s =
    when leb set_scopes s.scopes
    then Err (stop_of NoScopeLeft s)
    else Ok (record { top = s.top; left = s.left; names = s.names; scopes = s.scopes + 1; bindings = s.bindings })

pub record Marked : Type 0 where
  pub object : Stx
  pub uses : ℕ
  pub intro : ℕ

unfoldable pub marks_rule : ℕ → ℕ → ℕ → Stx → Step Marked
unfolding change_rule
marks_rule ph u k x = do
  used ← change_rule (add_scope u ph) x
  marked ← change_rule (flip_scope k ph) used
  done (record { object = marked; uses = u; intro = k })

unfoldable pub mark_rule : ℕ → Stx → Step Marked
unfolding fresh_scope marks_rule
mark_rule ph x = do
  u ← fresh_scope
  k ← fresh_scope
  marks_rule ph u k x

pub record ShownMark (l : List ℕ) (o : Mark) (k : Marked) : Type 0 where
  pub rep : Rep l o.state.top o.at (stx k.object)
  pub uses : o.uses.0 ≡ k.uses
  pub intro : o.intro.0 ≡ k.intro
  pub uses-declared : Declared o.uses
  pub intro-declared : Declared o.intro
  pub few : o.state.bindings ≤ most_bindings

abbrev pub marks : Shape Marked Mark
marks = record { shows = λ l o k. ShownMark l o k; state = λ o. o.state }

pub record Marks (ph u k : ℕ) (l l' : List ℕ) (s : State) (i : ℕ) (r : Result Mark Stop) : Type 0 where
  pub means : (b : Store) (x : Stx) → Rep l s.top i (stx x) → Agrees marks 1 node_spare l l' s b (marks_rule ph u k x (state_of s b)) r

pub record MarksFresh (ph : ℕ) (l l' : List ℕ) (s : State) (i : ℕ) (r : Result Mark Stop) : Type 0 where
  pub means : (b : Store) (x : Stx) → Rep l s.top i (stx x) → Agrees marks 1 node_spare l l' s b (mark_rule ph x (state_of s b)) r
