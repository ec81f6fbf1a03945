-- Sizes, weights and nestings, by the outermost part.
use mathlib.Core.Path.{◌≡◌, refl, ap}
use Prim.Native.Nat.{ℕ, ◌+◌, ◌≤◌, max}
use native.Mathlib.Omega.{arith}
use Rattle.model.specs.Objects as m
use Rattle.model.specs.Objects.{Stx, Stxs, nil, cons, list, sizes, nestings}
use Rattle.model.specs.Trees.{Tree, Trees, var, app, fun, datum, lst, stx, tnil, tcons, tsize, tsize_by, tsizes_by, tnesting, tnestings, from_stxs}
use Rattle.things.specs.Weights.{tsizes, weight, weights}

-- ---- a chain of syntax objects

pub weights-from : (ps : Stxs) → weights (from_stxs ps) ≡ sizes ps
unfolding weights from_stxs sizes
weights-from nil = refl
weights-from (cons s ps) = ap (λ (n : ℕ). m.size s + n) (weights-from ps)

pub nest_from : (ps : Stxs) → tnestings (from_stxs ps) ≡ nestings ps
unfolding tnesting from_stxs m.nesting
nest_from nil = refl
nest_from (cons s ps) = ap (λ (n : ℕ). max (m.nesting s) n) (nest_from ps)

-- ---- size as a tree

pub size-app : (h : Tree) (ts : Trees) → tsize (app h ts) ≡ 1 + tsizes (tcons h ts)
unfolding tsize tsize_by
size-app h ts = omega arith

pub size-fun : (n : ℕ) (b : Tree) → tsize (fun n b) ≡ 1 + tsize b
unfolding tsize tsize_by
size-fun n b = omega arith

pub size-lst : (ts : Trees) → tsize (lst ts) ≡ 1 + tsizes ts
unfolding tsize tsize_by
size-lst ts = omega arith

pub size-stx : (x : Stx) → tsize (stx x) ≡ 1
unfolding tsize tsize_by
size-stx x = refl

pub size_none : tsizes tnil ≡ 0
unfolding tsizes_by
size_none = refl

pub size-cons : (t : Tree) (ts : Trees) → tsizes (tcons t ts) ≡ tsize t + tsizes ts
unfolding tsize tsize_by
size-cons t ts = refl

pub size_pos : (t : Tree) → 1 ≤ tsize t
unfolding tsize tsize_by
size_pos (var n) = omega arith
size_pos (app h l) = omega arith
size_pos (fun n b) = omega arith
size_pos (datum a) = omega arith
size_pos (lst l) = omega arith
size_pos (stx s) = omega arith

-- ---- weight as a syntax object

pub weight-app : (h : Tree) (ts : Trees) → weight (app h ts) ≡ 0
unfolding weight
weight-app h ts = refl

pub weight-fun : (n : ℕ) (b : Tree) → weight (fun n b) ≡ 0
unfolding weight
weight-fun n b = refl

pub weight-lst : (ts : Trees) → weight (lst ts) ≡ 0
unfolding weight
weight-lst ts = refl

pub weight-stx : (x : Stx) → weight (stx x) ≡ m.size x
unfolding weight
weight-stx x = refl

pub weight-list : (c : m.Sets) (ps : Stxs) → weight (stx (list c ps)) ≡ 1 + weights (from_stxs ps)
unfolding weight m.size
weight-list c ps = omega (arith, weights-from ps)

pub weight-none : weights tnil ≡ 0
unfolding weights
weight-none = refl

pub weight-cons : (t : Tree) (ts : Trees) → weights (tcons t ts) ≡ weight t + weights ts
unfolding weights
weight-cons t ts = refl

-- ---- nesting

pub nest_app : (h : Tree) (ts : Trees) → tnesting (app h ts) ≡ 1 + tnestings (tcons h ts)
unfolding tnesting
nest_app h ts = omega arith

pub nest_fun : (n : ℕ) (b : Tree) → tnesting (fun n b) ≡ 1 + tnesting b
unfolding tnesting
nest_fun n b = omega arith

pub nest_lst : (ts : Trees) → tnesting (lst ts) ≡ 1 + tnestings ts
unfolding tnesting
nest_lst ts = omega arith

pub nest_stx : (x : Stx) → tnesting (stx x) ≡ m.nesting x
unfolding tnesting
nest_stx x = refl

pub nest_list : (c : m.Sets) (ps : Stxs) → tnesting (stx (list c ps)) ≡ 1 + tnestings (from_stxs ps)
unfolding tnesting m.nesting
nest_list c ps = omega (arith, nest_from ps)

pub nest_none : tnestings tnil ≡ 0
unfolding tnestings
nest_none = refl

pub nest_cons : (t : Tree) (ts : Trees) → tnestings (tcons t ts) ≡ max (tnesting t) (tnestings ts)
unfolding tnestings
nest_cons t ts = refl
