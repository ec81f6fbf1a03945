-- Size and nesting by the outermost part; the size of an object whose sets were changed, and of stripped data.
use mathlib.Core.Path.{◌≡◌, refl, ap, ap₂}
use Prim.Native.Nat.{suc, ◌+◌, ◌≤◌, max}
use native.Mathlib.Omega.{arith}
use Rattle.model.specs.Objects.{Atom, Sets, Stx, Stxs, atom, list, nil, cons, size, sizes, nesting, nestings, on_sets, on_sets_all}
use Rattle.things.specs.Weights.{weight}
use Rattle.model.specs.Trees.{tsize, tsize_by, tsizes_by, strip, strip_all}

-- ---- by the outermost part

pub nesting_pos : (x : Stx) → 1 ≤ nesting x
unfolding nesting
nesting_pos (atom c a) = omega arith
nesting_pos (list c ps) = omega arith

pub size-atom : (c : Sets) (a : Atom) → size (atom c a) ≡ 1
unfolding size
size-atom c a = refl

pub size-list : (c : Sets) (ps : Stxs) → size (list c ps) ≡ 1 + sizes ps
unfolding size
size-list c ps = omega arith

pub nesting-list : (c : Sets) (ps : Stxs) → nesting (list c ps) ≡ 1 + nestings ps
unfolding nesting
nesting-list c ps = omega arith

pub sizes-nil : sizes nil ≡ 0
unfolding sizes
sizes-nil = refl

pub sizes-cons : (x : Stx) (ps : Stxs) → sizes (cons x ps) ≡ size x + sizes ps
unfolding size
sizes-cons x ps = refl

pub nestings-cons : (x : Stx) (ps : Stxs) → nestings (cons x ps) ≡ max (nesting x) (nestings ps)
unfolding nesting
nestings-cons x ps = refl

-- ---- a change of sets

mutual
  unfolding size on_sets

  pub size-on_sets : (f : Sets → Sets) (x : Stx) → size (on_sets f x) ≡ size x
  size-on_sets f (atom c a) = refl
  size-on_sets f (list c ps) = ap suc (sizes-on_sets f ps)

  pub sizes-on_sets : (f : Sets → Sets) (ps : Stxs) → sizes (on_sets_all f ps) ≡ sizes ps
  sizes-on_sets f nil = refl
  sizes-on_sets f (cons x ps) = ap₂ ◌+◌ (size-on_sets f x) (sizes-on_sets f ps)

-- ---- stripped data

mutual
  unfolding size tsize tsize_by strip

  pub size-strip : (x : Stx) → tsize (strip x) ≡ size x
  size-strip (atom c a) = refl
  size-strip (list c ps) = ap suc (sizes-strip ps)

  pub sizes-strip : (ps : Stxs) → tsizes_by (λ s. 1) (strip_all ps) ≡ sizes ps
  sizes-strip nil = refl
  sizes-strip (cons x ps) = ap₂ ◌+◌ (size-strip x) (sizes-strip ps)

pub weight-strip : (x : Stx) → weight (strip x) ≡ 0
unfolding weight strip
weight-strip (atom c a) = refl
weight-strip (list c ps) = refl
