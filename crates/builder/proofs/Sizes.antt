-- Sizes of what is loaded, by the outermost part.
use mathlib.Core.Path.{◌≡◌, refl, ap}
use Prim.Native.Nat.{ℕ, ◌+◌, ◌≤◌}
use native.Mathlib.Omega.{arith}
use Rattle.model.specs.Objects as m
use Rattle.model.specs.Objects.{Atom, Stxs, nil, cons, atom, list, size, sizes}
use Rattle.model.specs.Trees.{Tree, Trees, var, app, fun, datum, lst, stx, tnil, tcons, from_stxs, load_size, tsize_by}
use Rattle.laws.proofs.Sizes.{size-some}
use Rattle.builder.specs.Building.{load_sizes}

-- a syntax value counts as its object
pub load-stx : (x : m.Stx) → load_size (stx x) ≡ size x
unfolding load_size tsize_by
load-stx x = refl

pub load-atom : (c : m.Sets) (a : Atom) → load_size (stx (atom c a)) ≡ 1
unfolding load_size tsize_by size
load-atom c a = refl

pub loads_from : (ps : Stxs) → load_sizes (from_stxs ps) ≡ sizes ps
unfolding tsize_by from_stxs sizes
loads_from nil = refl
loads_from (cons s ps) = ap (λ (n : ℕ). size s + n) (loads_from ps)

pub load-list : (c : m.Sets) (ps : Stxs) → load_size (stx (list c ps)) ≡ 1 + load_sizes (from_stxs ps)
unfolding load_size tsize_by size
load-list c ps = omega (arith, loads_from ps)

pub load-var : (n : ℕ) → load_size (var n) ≡ 1
unfolding load_size tsize_by
load-var n = refl

pub load-datum : (a : Atom) → load_size (datum a) ≡ 1
unfolding load_size tsize_by
load-datum a = refl

pub load-app : (h : Tree) (ts : Trees) → load_size (app h ts) ≡ 1 + load_sizes (tcons h ts)
unfolding load_size tsize_by
load-app h ts = omega arith

pub load-lst : (ts : Trees) → load_size (lst ts) ≡ 1 + load_sizes ts
unfolding load_size tsize_by
load-lst ts = omega arith

pub load-fun : (n : ℕ) (b : Tree) → load_size (fun n b) ≡ 1 + load_size b
unfolding load_size tsize_by
load-fun n b = omega arith

pub loads_none : load_sizes tnil ≡ 0
unfolding tsize_by
loads_none = refl

pub loads_cons : (t : Tree) (ts : Trees) → load_sizes (tcons t ts) ≡ load_size t + load_sizes ts
unfolding load_size tsize_by
loads_cons t ts = refl

pub load-some : (t : Tree) → 1 ≤ load_size t
unfolding load_size tsize_by
load-some (var n) = omega arith
load-some (app h ts) = omega arith
load-some (fun n b) = omega arith
load-some (datum a) = omega arith
load-some (lst ts) = omega arith
load-some (stx x) = size-some x
