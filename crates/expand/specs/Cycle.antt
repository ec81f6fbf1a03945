-- What the functions of the cycle ask and give. Those of an entry are told of the state before the entry was charged.
use Rattle.std.specs.Prelude.{List, ℕ, ◌+◌, ◌≤◌, length, Result}
use Rattle.model.specs.Objects.{Sets, symbol, Stx, atom, list, Stxs, nil, cons}
use Rattle.model.specs.Trees.{Tree, stx, from_stxs}
use Rattle.model.specs.Scopes.{Scopes}
use Rattle.model.specs.Steps.{Step, ◌>>=◌, made, inside}
use Rattle.model.specs.Meanings as m
use Rattle.model.specs.Meanings.{variable}
use Rattle.model.specs.Evaluating.{Expander}
use Rattle.model.specs.Expanding as rules
use Rattle.model.specs.Expanding.{expand_all, expand_application, expand_function, expand_lambda, expand_let_syntax, expand_macro, expand_entry, expand}
use Rattle.store.specs.Sizes.{most_bindings}
use Rattle.steps.specs.States.{store_of, Held, state_of, end, Room}
use Rattle.steps.specs.Agreement.{Shape, Agrees}
use Rattle.steps.specs.declared.State.{State}
use Rattle.steps.specs.declared.Out.{Out}
use Rattle.steps.specs.declared.Stop.{Stop}
use Rattle.things.specs.Rep.{Rep, RepP}
use Rattle.parse.specs.Parsing.{unpaid}
use Rattle.scoping.specs.Changing.{objects}
use Rattle.scoping.specs.Fresh.{ShownBinder}
use Rattle.scoping.specs.declared.Binder.{Binder}
use Rattle.expand.specs.Leaves.{Around, around, RepA, Within}
use Rattle.expand.specs.Values.{evaluation}
use Rattle.expand.specs.InPlace.{Further, further_rule, Named, ShownNext, nexts, scoped_rule, rhs_rule, binding_rule}
use Rattle.expand.specs.declared.Surroundings.{Surroundings}
use Rattle.expand.specs.declared.rewriting.Next.{Next}
use Rattle.table.specs.Sizes.{cell_size, two_cells, node_spare, triple_spare, unit_size}

abbrev pub expansion : ℕ → Expander
expansion entries = λ here x. expand entries here x

-- ---- chains of objects as results

pub record ShownParts (l : List ℕ) (o : Out) (ps : Stxs) : Type 0 where
  pub rep : RepP l o.state.top o.at (from_stxs ps)
  pub few : o.state.bindings ≤ most_bindings

abbrev pub parts_of : Shape Stxs Out
parts_of = record { shows = λ l o ps. ShownParts l o ps; state = λ o. o.state }

-- ---- what is asked

pub record ReadyToExpand (l st : List ℕ) (s : State) (i : ℕ) (at : Surroundings) : Type 0 where
  pub thing : Stx
  pub shown : Rep l s.top i (stx thing)
  pub within : Within l st s at

pub record ReadyParts (l st : List ℕ) (s : State) (c : ℕ) (at : Surroundings) : Type 0 where
  pub parts : Stxs
  pub shown : RepP l s.top c (from_stxs parts)
  pub within : Within l st s at

-- a list and its chain
pub record ReadyChain (l st : List ℕ) (s : State) (i c : ℕ) (at : Surroundings) : Type 0 where
  pub sets : Sets
  pub parts : Stxs
  pub shown : Rep l s.top i (stx (list sets parts))
  pub chain : RepP l s.top c (from_stxs parts)
  pub within : Within l st s at

-- a list, its head, and the parts after the head
pub record ReadyForm (l st : List ℕ) (s : State) (i head tail : ℕ) (at : Surroundings) : Type 0 where
  pub sets : Sets
  pub first : Stx
  pub others : Stxs
  pub shown : Rep l s.top i (stx (list sets (cons first others)))
  pub shown-first : Rep l s.top head (stx first)
  pub shown-others : RepP l s.top tail (from_stxs others)
  pub within : Within l st s at

pub record ReadyLet (l st : List ℕ) (s : State) (tail : ℕ) (at : Surroundings) : Type 0 where
  pub parts : Stxs
  pub shown : RepP l s.top tail (from_stxs parts)
  pub within : Within l st s at

pub record ReadyFunction (l st : List ℕ) (s : State) (i head id body : ℕ) (at : Surroundings) : Type 0 where
  pub sets : Sets
  pub old : Stxs
  pub first : Stx
  pub binder : Sets
  pub symb : ℕ
  pub thing : Stx
  pub shown : Rep l s.top i (stx (list sets old))
  pub shown-first : Rep l s.top head (stx first)
  pub shown-id : Rep l s.top id (stx (atom binder (symbol symb)))
  pub shown_body : Rep l s.top body (stx thing)
  pub within : Within l st s at

-- with what the units of the entry and the binder have left
pub record ReadyAbstraction (l st : List ℕ) (b : Binder) (i head body : ℕ) (at : Surroundings) : Type 0 where
  pub sets : Sets
  pub old : Stxs
  pub first : Stx
  pub binder : rules.Binder
  pub symb : ℕ
  pub thing : Stx
  pub shown : Rep l b.state.top i (stx (list sets old))
  pub shown-first : Rep l b.state.top head (stx first)
  pub shown-binder : ShownBinder symb l b binder
  pub shown_body : Rep l b.state.top body (stx thing)
  pub within : Within l st b.state at
  pub free : end b.state + (unit_size + node_spare) ≤ length l

pub record ReadyNext (l st : List ℕ) (o : Next) (at : Surroundings) : Type 0 where
  pub further : Further
  pub shown : ShownNext at l o further
  pub room : Room l o.state
  pub held : Held st o.state

pub record ReadyBinding (l st : List ℕ) (s : State) (id right body : ℕ) (at : Surroundings) : Type 0 where
  pub binder : Sets
  pub symb : ℕ
  pub thing : Stx
  pub object : Stx
  pub shown : Rep l s.top id (stx (atom binder (symbol symb)))
  pub shown_right : Rep l s.top right (stx thing)
  pub shown_body : Rep l s.top body (stx object)
  pub within : Within l st s at

pub record ReadyRhs (l st : List ℕ) (b : Binder) (right body : ℕ) (at : Surroundings) : Type 0 where
  pub binder : rules.Binder
  pub thing : Stx
  pub object : Stx
  pub named : Named b binder
  pub shown : Rep l b.state.top right (stx thing)
  pub shown_body : Rep l b.state.top body (stx object)
  pub within : Within l st b.state at

-- ---- a function with its new binder

unfoldable pub abstraction_rule : Expander → m.Surroundings → Sets → Stx → rules.Binder → ℕ → Stx → Step Stx
unfolding scoped_rule inside made
abstraction_rule self here c h b x body = do
  out ← scoped_rule here b (variable b.sets x) body >>= further_rule self
  made (list c (cons h (cons (atom b.sets (symbol x)) (cons out nil))))

-- ---- what is given

module _ (at : Surroundings) (st st' l l' : List ℕ) (s : State) where
  pub record Expanded (i : ℕ) (r : Result Out Stop) : Type 0 where
    pub means : (x : Stx) (e : Around) → Rep l s.top i (stx x) → RepA l s.top at e
        → Agrees objects 1 two_cells l l' s (store_of st') (expand at.entries (around e at) x (state_of s (store_of st))) r

  -- an expansion of its own, with p prunable
  pub record ExpandedInside (p : Scopes) (i : ℕ) (r : Result Out Stop) : Type 0 where
    pub means : (x : Stx) (e : Around) → Rep l s.top i (stx x) → RepA l s.top at e
        → Agrees objects 1 two_cells l l' s (store_of st') (inside (λ q. p) (expand at.entries (around e at) x) (state_of s (store_of st))) r

  pub record ExpandedEntry (i : ℕ) (r : Result Out Stop) : Type 0 where
    pub means : (x : Stx) (e : Around) → Rep l s.top i (stx x) → RepA l s.top at e
        → Agrees objects 1 two_cells l l' (unpaid s) (store_of st') (expand_entry (expansion at.entries) (evaluation at.entries) at.entries (around e at) x (state_of s (store_of st))) r

  pub record ExpandedList (i c : ℕ) (r : Result Out Stop) : Type 0 where
    pub means : (k : Sets) (ps : Stxs) (e : Around) → Rep l s.top i (stx (list k ps)) → RepP l s.top c (from_stxs ps) → RepA l s.top at e
        → Agrees objects 1 two_cells l l' (unpaid s) (store_of st') (expand_entry (expansion at.entries) (evaluation at.entries) at.entries (around e at) (list k ps) (state_of s (store_of st))) r

  pub record ExpandedApplication (i c : ℕ) (r : Result Out Stop) : Type 0 where
    pub means : (k : Sets) (ps : Stxs) (e : Around) → Rep l s.top i (stx (list k ps)) → RepP l s.top c (from_stxs ps) → RepA l s.top at e
        → Agrees objects 1 two_cells l l' (unpaid s) (store_of st') (expand_application (expansion at.entries) (around e at) k ps (state_of s (store_of st))) r

  pub record ExpandedParts (c : ℕ) (r : Result Out Stop) : Type 0 where
    pub means : (ps : Stxs) (e : Around) → RepP l s.top c (from_stxs ps) → RepA l s.top at e
        → Agrees parts_of 0 0 l l' s (store_of st') (expand_all (λ x. inside (λ p. p) (expand at.entries (around e at) x)) ps (state_of s (store_of st))) r

  pub record ExpandedLambda (i head tail : ℕ) (r : Result Out Stop) : Type 0 where
    pub means : (k : Sets) (h : Stx) (ps : Stxs) (e : Around) → Rep l s.top i (stx (list k (cons h ps))) → Rep l s.top head (stx h) → RepP l s.top tail (from_stxs ps) → RepA l s.top at e
        → Agrees objects 1 two_cells l l' (unpaid s) (store_of st') (expand_lambda (expansion at.entries) (around e at) k h ps (state_of s (store_of st))) r

  pub record ExpandedFunction (i head id body : ℕ) (r : Result Out Stop) : Type 0 where
    pub means : (k : Sets) (qs : Stxs) (h : Stx) (c : Sets) (x : ℕ) (y : Stx) (e : Around) → Rep l s.top i (stx (list k qs)) → Rep l s.top head (stx h) → Rep l s.top id (stx (atom c (symbol x))) → Rep l s.top body (stx y)
        → RepA l s.top at e
        → Agrees objects 1 two_cells l l' (unpaid s) (store_of st') (expand_function (expansion at.entries) (around e at) k h c x y (state_of s (store_of st))) r

  pub record ExpandedLetSyntax (tail : ℕ) (r : Result Out Stop) : Type 0 where
    pub means : (ps : Stxs) (e : Around) → RepP l s.top tail (from_stxs ps) → RepA l s.top at e
        → Agrees objects 1 two_cells l l' (unpaid s) (store_of st') (expand_let_syntax (expansion at.entries) (evaluation at.entries) at.entries (around e at) ps (state_of s (store_of st))) r

  pub record OnwardBinding (id right body : ℕ) (r : Result Next Stop) : Type 0 where
    pub means : (c : Sets) (x : ℕ) (u y : Stx) (e : Around) → Rep l s.top id (stx (atom c (symbol x))) → Rep l s.top right (stx u) → Rep l s.top body (stx y) → RepA l s.top at e
        → Agrees (nexts at) 1 cell_size l l' s (store_of st') (binding_rule (expansion at.entries) (evaluation at.entries) at.entries (around e at) c x u y (state_of s (store_of st))) r

  pub record ExpandedMacro (i v : ℕ) (r : Result Out Stop) : Type 0 where
    pub means : (x : Stx) (t : Tree) (e : Around) → Rep l s.top i (stx x) → Rep l s.top v t → RepA l s.top at e
        → Agrees objects 1 two_cells l l' s (store_of st') (expand_macro (expansion at.entries) (evaluation at.entries) (around e at) t x (state_of s (store_of st))) r

module _ (at : Surroundings) (st st' l l' : List ℕ) (b : Binder) where
  pub record ExpandedAbstraction (i head body : ℕ) (r : Result Out Stop) : Type 0 where
    pub means : (c : Sets) (qs : Stxs) (h : Stx) (k : rules.Binder) (x : ℕ) (y : Stx) (e : Around) → Rep l b.state.top i (stx (list c qs)) → Rep l b.state.top head (stx h) → ShownBinder x l b k → Rep l b.state.top body (stx y)
        → RepA l b.state.top at e
        → Agrees objects 2 (node_spare + triple_spare) l l' (unpaid (unpaid b.state)) (store_of st') (abstraction_rule (expansion at.entries) (around e at) c h k x y (state_of b.state (store_of st))) r

  pub record OnwardRhs (right body : ℕ) (r : Result Next Stop) : Type 0 where
    pub means : (k : rules.Binder) (u y : Stx) (e : Around) → Named b k → Rep l b.state.top right (stx u) → Rep l b.state.top body (stx y) → RepA l b.state.top at e
        → Agrees (nexts at) 1 cell_size l l' b.state (store_of st') (rhs_rule (expansion at.entries) (evaluation at.entries) at.entries (around e at) k u y (state_of b.state (store_of st))) r

pub record ExpandedNext (at : Surroundings) (st st' l l' : List ℕ) (o : Next) (r : Result Out Stop) : Type 0 where
  pub means : (k : Further) → ShownNext at l o k
      → Agrees objects 1 two_cells l l' o.state (store_of st') (further_rule (expansion at.entries) k (state_of o.state (store_of st))) r
