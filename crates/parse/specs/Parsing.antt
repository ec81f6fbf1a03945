-- What the functions of parsing ask and give. An entry's own functions are told of the state before the entry was charged: its unit pays
-- for what they make.
use Rattle.std.specs.Prelude.{List, ℕ, ◌+◌, ◌≤◌, Result}
use Rattle.store.specs.Sizes.{most_bindings}
use Rattle.model.specs.Objects.{Sets, Stx, list, Stxs, size}
use Rattle.model.specs.Trees.{Tree, var, app, fun, stx, tcons, from_stxs, strip}
use Rattle.model.specs.Steps.{Step, ◌>>=◌, ◌>>◌, done, charge, resolve_at, parts1, parts2, identifier}
use Rattle.model.specs.Meanings.{form_of}
use Rattle.model.specs.Parsing.{parse_all, parse_form, parse_entry, parse}
use Rattle.steps.specs.States.{Store, store_of, Held, state_of, Room}
use Rattle.steps.specs.Agreement.{Agrees}
use Rattle.steps.specs.declared.State.{State}
use Rattle.steps.specs.declared.Stop.{Stop}
use Rattle.steps.specs.declared.Out.{Out}
use Rattle.things.specs.Rep.{Rep, RepP}
use Rattle.parse.specs.Shown.{trees, chains}
use Rattle.table.specs.Sizes.{two_cells}

unfoldable pub unpaid : State → State
unpaid s = record { top = s.top; left = s.left + 1; names = s.names; scopes = s.scopes; bindings = s.bindings }

-- ---- what is asked

pub record ReadyToParse (l st : List ℕ) (s : State) (i : ℕ) : Type 0 where
  pub thing : Stx
  pub shown : Rep l s.top i (stx thing)
  pub room : Room l s
  pub held : Held st s

pub record ReadyParts (l st : List ℕ) (s : State) (c : ℕ) : Type 0 where
  pub thing : Stxs
  pub shown : RepP l s.top c (from_stxs thing)
  pub room : Room l s
  pub held : Held st s

-- a chain, and the same without its first part
pub record ReadyForm (l st : List ℕ) (s : State) (c tail : ℕ) : Type 0 where
  pub first : Stx
  pub others : Stxs
  pub shown : RepP l s.top c (tcons (stx first) (from_stxs others))
  pub shown-others : RepP l s.top tail (from_stxs others)
  pub room : Room l s
  pub held : Held st s

-- where no name is looked up
pub record ReadyChain (l : List ℕ) (s : State) (c : ℕ) : Type 0 where
  pub thing : Stxs
  pub shown : RepP l s.top c (from_stxs thing)
  pub room : Room l s
  pub few : s.bindings ≤ most_bindings

pub record ReadyData (l : List ℕ) (s : State) (i : ℕ) : Type 0 where
  pub thing : Stx
  pub shown : Rep l s.top i (stx thing)
  pub room : Room l s
  pub few : s.bindings ≤ most_bindings

-- ---- the rules' parts by themselves

unfoldable pub name_rule : ℕ → Stx → Step Tree
unfolding identifier resolve_at
name_rule ph x = identifier x (λ c s. do
  n ← resolve_at ph c s
  done (var n))

unfoldable pub function_rule : (Stx → Step Tree) → ℕ → Stx → Step Tree
function_rule self n body = do
  b ← self body
  done (fun n b)

unfoldable pub lambda_rule : (Stx → Step Tree) → ℕ → Stxs → Step Tree
unfolding parts2 identifier resolve_at function_rule
lambda_rule self ph l = parts2 l (λ i body. identifier i (λ c x. do
  n ← resolve_at ph c x
  function_rule self n body))

unfoldable pub data_rule : Stx → Step Tree
unfolding charge size strip
data_rule s = do
  charge (size s)
  done (strip s)

unfoldable pub quote_rule : Stxs → Step Tree
unfolding parts1 data_rule
quote_rule l = parts1 l (λ s. data_rule s)

unfoldable pub syntax_rule : Stxs → Step Tree
unfolding parts1
syntax_rule l = parts1 l (λ s. done (stx s))

unfoldable pub application_rule : (Stx → Step Tree) → Stx → Stxs → Step Tree
unfolding parse_all
application_rule self h l = do
  f ← self h
  r ← parse_all self l
  done (app f r)

-- ---- what is given

pub record Parsed (entries ph : ℕ) (st l l' : List ℕ) (s : State) (i : ℕ) (r : Result Out Stop) : Type 0 where
  pub means : (x : Stx) → Rep l s.top i (stx x) → Agrees trees 1 two_cells l l' s (store_of st) (parse entries ph x (state_of s (store_of st))) r

pub record ParsedEntry (entries ph : ℕ) (st l l' : List ℕ) (s : State) (i : ℕ) (r : Result Out Stop) : Type 0 where
  pub means : (x : Stx) → Rep l s.top i (stx x)
      → Agrees trees 1 two_cells l l' (unpaid s) (store_of st) (parse_entry (λ y. parse entries ph y) ph x (state_of s (store_of st))) r

pub record ParsedName (ph : ℕ) (st l l' : List ℕ) (s : State) (i : ℕ) (r : Result Out Stop) : Type 0 where
  pub means : (x : Stx) → Rep l s.top i (stx x) → Agrees trees 1 two_cells l l' (unpaid s) (store_of st) (name_rule ph x (state_of s (store_of st))) r

pub record ParsedList (entries ph : ℕ) (st l l' : List ℕ) (s : State) (c : ℕ) (r : Result Out Stop) : Type 0 where
  pub means : (k : Sets) (ps : Stxs) → RepP l s.top c (from_stxs ps)
      → Agrees trees 1 two_cells l l' (unpaid s) (store_of st) (parse_entry (λ y. parse entries ph y) ph (list k ps) (state_of s (store_of st))) r

pub record ParsedForm (entries ph : ℕ) (st l l' : List ℕ) (s : State) (head c tail : ℕ) (r : Result Out Stop) : Type 0 where
  pub means : (h : Stx) (ps : Stxs) → RepP l s.top c (tcons (stx h) (from_stxs ps)) → RepP l s.top tail (from_stxs ps)
      → Agrees trees 1 two_cells l l' (unpaid s) (store_of st) (parse_form (λ y. parse entries ph y) ph (form_of head) h ps (state_of s (store_of st))) r

pub record ParsedLambda (entries ph : ℕ) (st l l' : List ℕ) (s : State) (c : ℕ) (r : Result Out Stop) : Type 0 where
  pub means : (ps : Stxs) → RepP l s.top c (from_stxs ps)
      → Agrees trees 1 two_cells l l' (unpaid s) (store_of st) (lambda_rule (λ y. parse entries ph y) ph ps (state_of s (store_of st))) r

pub record ParsedFunction (entries ph : ℕ) (st l l' : List ℕ) (s : State) (n body : ℕ) (r : Result Out Stop) : Type 0 where
  pub means : (x : Stx) → Rep l s.top body (stx x)
      → Agrees trees 1 two_cells l l' (unpaid s) (store_of st) (function_rule (λ y. parse entries ph y) n x (state_of s (store_of st))) r

pub record ParsedQuote (l l' : List ℕ) (s : State) (c : ℕ) (r : Result Out Stop) : Type 0 where
  pub means : (b : Store) (ps : Stxs) → RepP l s.top c (from_stxs ps) → Agrees trees 1 two_cells l l' (unpaid s) b (quote_rule ps (state_of s b)) r

pub record ParsedData (l l' : List ℕ) (s : State) (i : ℕ) (r : Result Out Stop) : Type 0 where
  pub means : (b : Store) (x : Stx) → Rep l s.top i (stx x) → Agrees trees 1 two_cells l l' (unpaid s) b (data_rule x (state_of s b)) r

pub record ParsedSyntax (l : List ℕ) (s : State) (c : ℕ) (r : Result Out Stop) : Type 0 where
  pub means : (b : Store) (ps : Stxs) → RepP l s.top c (from_stxs ps) → Agrees trees 1 two_cells l l (unpaid s) b (syntax_rule ps (state_of s b)) r

pub record ParsedApplication (entries ph : ℕ) (st l l' : List ℕ) (s : State) (c : ℕ) (r : Result Out Stop) : Type 0 where
  pub means : (h : Stx) (ps : Stxs) → RepP l s.top c (tcons (stx h) (from_stxs ps))
      → Agrees trees 1 two_cells l l' (unpaid s) (store_of st) (application_rule (λ y. parse entries ph y) h ps (state_of s (store_of st))) r

pub record ParsedParts (entries ph : ℕ) (st l l' : List ℕ) (s : State) (c : ℕ) (r : Result Out Stop) : Type 0 where
  pub means : (ps : Stxs) → RepP l s.top c (from_stxs ps)
      → Agrees chains 0 0 l l' s (store_of st) (parse_all (λ y. parse entries ph y) ps (state_of s (store_of st))) r
