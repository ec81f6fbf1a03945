-- What the functions that expand no part ask and give.
use Rattle.std.specs.Prelude.{List, ℕ, ◌≤◌, Result}
use Rattle.model.specs.Scopes.{add}
use Rattle.model.specs.Objects.{Sets, symbol, Stx, atom, list, Stxs, nil, cons}
use Rattle.model.specs.Trees.{Tree, stx, from_stxs, as_stx}
use Rattle.model.specs.Steps.{Step, ◌>>=◌, ◌>>◌, done, resolve_at, parts1, flip_in, prunable_now, prune_from, use_scope}
use Rattle.model.specs.Meanings as m
use Rattle.model.specs.Meanings.{Env, meaning_among}
use Rattle.model.specs.Expanding.{expand_name, expand_syntax, or_no_syntax}
use Rattle.store.specs.Sizes.{most_bindings}
use Rattle.store.specs.Words.{prunable_of, uses_of, Carries}
use Rattle.steps.specs.States.{Store, store_of, Held, state_of, Room}
use Rattle.steps.specs.Agreement.{Agrees}
use Rattle.steps.specs.declared.State.{State}
use Rattle.steps.specs.declared.Out.{Out}
use Rattle.scoping.specs.declared.Mark.{Mark}
use Rattle.steps.specs.declared.Stop.{Stop}
use Rattle.things.specs.Rep.{Rep, RepP}
use Rattle.parse.specs.Parsing.{unpaid}
use Rattle.stops.specs.Stops.{RepZ}
use Rattle.environment.specs.Meanings.{RepE}
use Rattle.scoping.specs.Changing.{objects}
use Rattle.scoping.specs.Fresh.{Marked, mark_rule, marks}
use Rattle.expand.specs.declared.Surroundings.{Surroundings}
use Rattle.table.specs.Sizes.{two_cells, node_spare}

-- ---- where an object is expanded

-- what names mean there, and which are stopped
pub record Around : Type 0 where
  pub meanings : Env
  pub stops : List ℕ

abbrev pub around : Around → Surroundings → m.Surroundings
around e at = record { phase = at.phase; meanings = e.meanings; stops = e.stops }

pub record RepAround (l : List ℕ) (top i z : ℕ) (e : Around) : Type 0 where
  pub meant : RepE l top i e.meanings
  pub stopped : RepZ l top z e.stops

abbrev pub RepA : List ℕ → ℕ → Surroundings → Around → Type 0
RepA l top at e = RepAround l top at.meanings at.stops e

-- meanings and stops, room and the store where an object is expanded
pub record Within (l st : List ℕ) (s : State) (at : Surroundings) : Type 0 where
  pub meant : Around
  pub known : RepA l s.top at meant
  pub room : Room l s
  pub held : Held st s

-- ---- an identifier

pub record ReadyName (l st : List ℕ) (s : State) (i : ℕ) (at : Surroundings) : Type 0 where
  pub sets : Sets
  pub symb : ℕ
  pub shown : Rep l s.top i (stx (atom sets (symbol symb)))
  pub within : Within l st s at

unfoldable pub name_rule : m.Surroundings → Sets → ℕ → Step Stx
unfolding resolve_at meaning_among expand_name
name_rule here c x = do
  n ← resolve_at here.phase c x
  expand_name (meaning_among n here.meanings here.stops)

pub record ExpandedName (at : Surroundings) (st l : List ℕ) (s : State) (i : ℕ) (r : Result Out Stop) : Type 0 where
  pub means : (c : Sets) (x : ℕ) (e : Around) → Rep l s.top i (stx (atom c (symbol x))) → RepA l s.top at e
      → Agrees objects 1 two_cells l l (unpaid s) (store_of st) (name_rule (around e at) c x (state_of s (store_of st))) r

-- ---- quote and syntax: a list, and its parts after the head

pub record ReadyTail (l : List ℕ) (s : State) (i head tail : ℕ) : Type 0 where
  pub sets : Sets
  pub first : Stx
  pub others : Stxs
  pub shown : Rep l s.top i (stx (list sets (cons first others)))
  pub shown-first : Rep l s.top head (stx first)
  pub chain : RepP l s.top tail (from_stxs others)
  pub room : Room l s
  pub few : s.bindings ≤ most_bindings

unfoldable pub quote_rule : Stx → Stxs → Step Stx
unfolding parts1
quote_rule x l = parts1 l (λ s. done x)

pub record ExpandedQuote (l : List ℕ) (s : State) (i tail : ℕ) (r : Result Out Stop) : Type 0 where
  pub means : (b : Store) (x : Stx) (ps : Stxs) → Rep l s.top i (stx x) → RepP l s.top tail (from_stxs ps)
      → Agrees objects 1 two_cells l l (unpaid s) b (quote_rule x ps (state_of s b)) r

pub record ExpandedSyntax (ph : ℕ) (st l l' : List ℕ) (s : State) (i head tail : ℕ) (r : Result Out Stop) : Type 0 where
  pub means : (k : Sets) (h : Stx) (ps : Stxs) → Rep l s.top i (stx (list k (cons h ps))) → Rep l s.top head (stx h) → RepP l s.top tail (from_stxs ps)
      → Agrees objects 1 two_cells l l' (unpaid s) (store_of st) (expand_syntax ph k h ps (state_of s (store_of st))) r

pub record ReadyPruned (l : List ℕ) (s : State) (i head x : ℕ) : Type 0 where
  pub sets : Sets
  pub first : Stx
  pub thing : Stx
  pub old : Stxs
  pub shown : Rep l s.top i (stx (list sets old))
  pub shown-first : Rep l s.top head (stx first)
  pub shown-thing : Rep l s.top x (stx thing)
  pub room : Room l s
  pub few : s.bindings ≤ most_bindings

unfoldable pub pruned_rule : ℕ → Sets → Stx → Stx → Step Stx
unfolding prunable_now prune_from
pruned_rule ph c h s = do
  p ← prunable_now
  t ← prune_from p ph s
  done (list c (cons h (cons t nil)))

pub record Pruned (ph : ℕ) (st l l' : List ℕ) (s : State) (i head x : ℕ) (r : Result Out Stop) : Type 0 where
  pub means : (k : Sets) (qs : Stxs) (h y : Stx) → Rep l s.top i (stx (list k qs)) → Rep l s.top head (stx h) → Rep l s.top x (stx y)
      → Agrees objects 1 two_cells l l' (unpaid s) (store_of st) (pruned_rule ph k h y (state_of s (store_of st))) r

-- ---- a macro's use

pub record UsesScope (k : ℕ) (st st' : List ℕ) : Type 0 where
  pub carries : Carries (add k (prunable_of st)) (add k (uses_of st)) st st'

-- the form marked, and its use scope carried
unfoldable pub used_rule : ℕ → Stx → Step Marked
unfolding mark_rule use_scope
used_rule ph x = do
  k ← mark_rule ph x
  use_scope k.uses
  done k

pub record MarksUse (ph : ℕ) (st st' l l' : List ℕ) (s : State) (i : ℕ) (r : Result Mark Stop) : Type 0 where
  pub means : (x : Stx) → Rep l s.top i (stx x) → Agrees marks 1 node_spare l l' s (store_of st') (used_rule ph x (state_of s (store_of st))) r

-- what it evaluated to

pub record ReadyBack (l : List ℕ) (s : State) (i : ℕ) : Type 0 where
  pub thing : Tree
  pub shown : Rep l s.top i thing
  pub room : Room l s
  pub few : s.bindings ≤ most_bindings

unfoldable pub back_rule : ℕ → ℕ → Tree → Step Stx
unfolding as_stx or_no_syntax flip_in
back_rule ph k r = do
  s ← or_no_syntax (as_stx r)
  flip_in k ph s

pub record Backs (ph k : ℕ) (l l' : List ℕ) (s : State) (i : ℕ) (r : Result Out Stop) : Type 0 where
  pub means : (b : Store) (t : Tree) → Rep l s.top i t → Agrees objects 1 node_spare l l' s b (back_rule ph k t (state_of s b)) r
