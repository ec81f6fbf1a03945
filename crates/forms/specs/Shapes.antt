-- Chains of so many parts, and identifiers, as the table shows them.
use Rattle.std.specs.Prelude.{◌≡◌, List, Bool, true, false, ℕ, Option, Some, None}
use Rattle.model.specs.Objects.{symbol, number, point, prim, rung, Stx, atom, list, Stxs, nil, cons, count}
use Rattle.model.specs.Trees.{stx, from_stxs}
use Rattle.things.specs.Rep.{Rep, RepP}

-- exactly so many parts, and where each lies
pub record OneAt (l : List ℕ) (top i : ℕ) (ps : Stxs) : Type 0 where
  pub first : Stx
  pub is : ps ≡ cons first nil
  pub shown : Rep l top i (stx first)

pub record TwoAt (l : List ℕ) (top i j : ℕ) (ps : Stxs) : Type 0 where
  pub first : Stx
  pub second : Stx
  pub is : ps ≡ cons first (cons second nil)
  pub shown : Rep l top i (stx first)
  pub shown-second : Rep l top j (stx second)

pub record ThreeAt (l : List ℕ) (top i j k : ℕ) (ps : Stxs) : Type 0 where
  pub first : Stx
  pub second : Stx
  pub third : Stx
  pub is : ps ≡ cons first (cons second (cons third nil))
  pub shown : Rep l top i (stx first)
  pub shown-second : Rep l top j (stx second)
  pub shown-third : Rep l top k (stx third)

-- what each case says of the parts
unfoldable pub OneAs : List ℕ → ℕ → Option ℕ → Stxs → Type 0
OneAs l top (Some i) ps = OneAt l top i ps
OneAs l top None ps = ¬ (count ps ≡ 1)

unfoldable pub TwoAs : List ℕ → ℕ → Option (ℕ × ℕ) → Stxs → Type 0
TwoAs l top (Some p) ps = TwoAt l top p.0 p.1 ps
TwoAs l top None ps = ¬ (count ps ≡ 2)

unfoldable pub ThreeAs : List ℕ → ℕ → Option (ℕ × ℕ × ℕ) → Stxs → Type 0
ThreeAs l top (Some p) ps = ThreeAt l top p.0 p.1 p.2 ps
ThreeAs l top None ps = ¬ (count ps ≡ 3)

pub record OneIs (l : List ℕ) (top : ℕ) (ps : Stxs) (r : Option ℕ) : Type 0 where
  pub told : OneAs l top r ps

pub record TwoAre (l : List ℕ) (top : ℕ) (ps : Stxs) (r : Option (ℕ × ℕ)) : Type 0 where
  pub told : TwoAs l top r ps

pub record ThreeAre (l : List ℕ) (top : ℕ) (ps : Stxs) (r : Option (ℕ × ℕ × ℕ)) : Type 0 where
  pub told : ThreeAs l top r ps

-- of the parts that the chain c stands for
pub record Single (l : List ℕ) (c : ℕ) (r : Option ℕ) : Type 0 where
  pub means : (top : ℕ) (ps : Stxs) → RepP l top c (from_stxs ps) → OneIs l top ps r

pub record Double (l : List ℕ) (c : ℕ) (r : Option (ℕ × ℕ)) : Type 0 where
  pub means : (top : ℕ) (ps : Stxs) → RepP l top c (from_stxs ps) → TwoAre l top ps r

pub record Triple (l : List ℕ) (c : ℕ) (r : Option (ℕ × ℕ × ℕ)) : Type 0 where
  pub means : (top : ℕ) (ps : Stxs) → RepP l top c (from_stxs ps) → ThreeAre l top ps r

unfoldable pub is_identifier : Stx → Bool
is_identifier (atom c (symbol x)) = true
is_identifier (atom c (number x)) = false
is_identifier (atom c (point x)) = false
is_identifier (atom c (prim x)) = false
is_identifier (atom c (rung x)) = false
is_identifier (list c l) = false

pub record Identifies (l : List ℕ) (i : ℕ) (r : Bool) : Type 0 where
  pub means : (top : ℕ) (x : Stx) → Rep l top i (stx x) → r ≡ is_identifier x
