-- The kinds of arguments that primitives 7 to 9 take.
use Rattle.std.specs.Prelude.{◌≡◌, Bool, true, false, List, ℕ, Option, Some, None}
use Rattle.std.proofs.Math.Option.{none, some}
use Rattle.model.specs.Choice.{given}
use Rattle.model.specs.Objects.{symbol, Stx, atom}
use Rattle.model.specs.Trees.{Tree, stx, Trees, as_stx, as_list}
use Rattle.model.specs.Evaluating.{Id, as_id, as_ids}
use Rattle.things.specs.Rep.{Rep, RepP}

pub record ObjectAt (t : Tree) : Type 0 where
  pub object : Stx
  pub is : t ≡ stx object

pub record IdAt (t : Tree) : Type 0 where
  pub id : Id
  pub is : t ≡ stx (atom id.sets (symbol id.symb))

pub record AreIds (ts : Trees) : Type 0 where
  pub ids : List Id
  pub is : as_ids ts ≡ some ids

pub record IsObject (l : List ℕ) (i : ℕ) (r : Bool) : Type 0 where
  pub yes : r ≡ true → (top : ℕ) (t : Tree) → Rep l top i t → ObjectAt t
  pub no : r ≡ false → (top : ℕ) (t : Tree) → Rep l top i t → as_stx t ≡ none

pub record IsId (l : List ℕ) (i : ℕ) (r : Bool) : Type 0 where
  pub yes : r ≡ true → (top : ℕ) (t : Tree) → Rep l top i t → IdAt t
  pub no : r ≡ false → (top : ℕ) (t : Tree) → Rep l top i t → as_id t ≡ none

pub record AllIds (l : List ℕ) (c : ℕ) (r : Bool) : Type 0 where
  pub yes : r ≡ true → (top : ℕ) (ts : Trees) → RepP l top c ts → AreIds ts
  pub no : r ≡ false → (top : ℕ) (ts : Trees) → RepP l top c ts → as_ids ts ≡ none

-- the chain c of t's parts, all of them identifiers
pub record IdsAt (l : List ℕ) (top c : ℕ) (t : Tree) : Type 0 where
  pub parts : Trees
  pub ids : List Id
  pub shown : RepP l top c parts
  pub are : as_ids parts ≡ some ids
  pub is : given (as_list t) as_ids ≡ some ids

unfoldable pub ListedAs : List ℕ → ℕ → Option ℕ → Tree → Type 0
ListedAs l top (Some c) t = IdsAt l top c t
ListedAs l top None t = given (as_list t) as_ids ≡ none

pub record ListedIs (l : List ℕ) (top : ℕ) (r : Option ℕ) (t : Tree) : Type 0 where
  pub told : ListedAs l top r t

pub record ListsIds (l : List ℕ) (i : ℕ) (r : Option ℕ) : Type 0 where
  pub means : (top : ℕ) (t : Tree) → Rep l top i t → ListedIs l top r t
