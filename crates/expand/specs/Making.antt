-- Lists made anew: what is asked and given.
use Rattle.std.specs.Prelude.{◌≡◌, List, ℕ, ◌+◌, ◌≤◌, length, Result}
use Rattle.model.specs.Objects.{Sets, Stx, list, Stxs, nil, cons}
use Rattle.model.specs.Trees.{Tree, stx, tnil, tcons, from_stxs}
use Rattle.model.specs.Steps.{ok, made}
use Rattle.table.specs.Words.{Same}
use Rattle.things.specs.Rep.{Rep, RepP}
use Rattle.things.specs.Making.{Roomy}
use Rattle.store.specs.Sizes.{most_bindings}
use Rattle.steps.specs.States.{Store, state_of, end, Room}
use Rattle.steps.specs.Agreement.{Agrees}
use Rattle.steps.specs.declared.State.{State}
use Rattle.steps.specs.declared.Out.{Out}
use Rattle.steps.specs.declared.Stop.{Stop}
use Rattle.parse.specs.Parsing.{unpaid}
use Rattle.scoping.specs.Changing.{objects}
use Rattle.table.specs.Sizes.{two_cells, node_size, node_spare, pair_size, pair_spare, triple_size, triple_spare}

pub record Relistable (l : List ℕ) (top i : ℕ) : Type 0 where
  pub sets : Sets
  pub parts : Stxs
  pub shown : Rep l top i (stx (list sets parts))
  pub room : Roomy l top node_size

pub record Relisted (l l' : List ℕ) (top i c at top' : ℕ) : Type 0 where
  pub kept : Same top l l'
  pub grows : top' ≡ top + node_size
  pub means : (k : Sets) (qs ps : Stxs) → Rep l top i (stx (list k qs)) → RepP l top c (from_stxs ps) → Rep l' top' at (stx (list k ps))

pub record Chainable (l : List ℕ) (top a b : ℕ) : Type 0 where
  pub first : Tree
  pub second : Tree
  pub shown : Rep l top a first
  pub shown-second : Rep l top b second
  pub room : Roomy l top two_cells

pub record Chained (l l' : List ℕ) (top a b at top' : ℕ) : Type 0 where
  pub kept : Same top l l'
  pub grows : top' ≡ top + two_cells
  pub means : (t u : Tree) → Rep l top a t → Rep l top b u → RepP l' top' at (tcons t (tcons u tnil))

-- the list i, new parts, and room for a node
pub record ReadyList (l : List ℕ) (s : State) (i c : ℕ) : Type 0 where
  pub sets : Sets
  pub old : Stxs
  pub parts : Stxs
  pub shown : Rep l s.top i (stx (list sets old))
  pub chain : RepP l s.top c (from_stxs parts)
  pub room : Room l s
  pub free : end s + node_size ≤ length l
  pub few : s.bindings ≤ most_bindings

pub record Lists (l l' : List ℕ) (s : State) (i c : ℕ) (r : Result Out Stop) : Type 0 where
  pub means : (b : Store) (k : Sets) (qs ps : Stxs) → Rep l s.top i (stx (list k qs)) → RepP l s.top c (from_stxs ps)
      → Agrees objects 1 node_spare l l' (unpaid s) b (made (list k ps) (state_of s b)) r

pub record ReadyTwo (l : List ℕ) (s : State) (i a c : ℕ) : Type 0 where
  pub sets : Sets
  pub old : Stxs
  pub first : Stx
  pub second : Stx
  pub shown : Rep l s.top i (stx (list sets old))
  pub shown-first : Rep l s.top a (stx first)
  pub shown-second : Rep l s.top c (stx second)
  pub room : Room l s
  pub free : end s + pair_size ≤ length l
  pub few : s.bindings ≤ most_bindings

pub record TwoLists (l l' : List ℕ) (s : State) (i a c : ℕ) (r : Result Out Stop) : Type 0 where
  pub means : (b : Store) (k : Sets) (qs : Stxs) (x y : Stx) → Rep l s.top i (stx (list k qs)) → Rep l s.top a (stx x) → Rep l s.top c (stx y)
      → Agrees objects 2 pair_spare l l' (unpaid (unpaid s)) b (ok (list k (cons x (cons y nil))) (state_of s b)) r

pub record ReadyThree (l : List ℕ) (s : State) (i a c d : ℕ) : Type 0 where
  pub sets : Sets
  pub old : Stxs
  pub first : Stx
  pub second : Stx
  pub third : Stx
  pub shown : Rep l s.top i (stx (list sets old))
  pub shown-first : Rep l s.top a (stx first)
  pub shown-second : Rep l s.top c (stx second)
  pub shown-third : Rep l s.top d (stx third)
  pub room : Room l s
  pub free : end s + triple_size ≤ length l
  pub few : s.bindings ≤ most_bindings

pub record ThreeLists (l l' : List ℕ) (s : State) (i a c d : ℕ) (r : Result Out Stop) : Type 0 where
  pub means : (b : Store) (k : Sets) (qs : Stxs) (x y z : Stx) → Rep l s.top i (stx (list k qs)) → Rep l s.top a (stx x) → Rep l s.top c (stx y) → Rep l s.top d (stx z)
      → Agrees objects 2 triple_spare l l' (unpaid (unpaid s)) b (made (list k (cons x (cons y (cons z nil)))) (state_of s b)) r
