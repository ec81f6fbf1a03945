-- Document 01, 'Things and their numbers': trees and values, their size and nesting; and, of 'Parsing and evaluating', stripping
-- and substituting.
use Rattle.std.specs.Prelude.{ℕ, suc, ◌+◌, max, eqb}
use Rattle.std.proofs.Math.Option.{Option, none, some}
use Rattle.model.specs.Choice.{when◌then◌else◌, given}
use Rattle.model.specs.Objects.{Name, Atom, symbol, number, point, prim, rung, Stx, atom, list, Stxs, nil, cons, size, nesting}

-- A tree is a variable, an application (of a head and arguments), a function (its name and body), or a value. A value is a
-- function, an atom, a list of values, or a syntax object.

mutual
  pub data Tree : Type 0 where
    var : Name → Tree
    app : Tree → Trees → Tree
    fun : Name → Tree → Tree
    datum : Atom → Tree
    lst : Trees → Tree
    stx : Stx → Tree

  pub data Trees : Type 0 where
    tnil : Trees
    tcons : Tree → Trees → Trees

unfoldable pub tcount : Trees → ℕ
tcount tnil = 0
tcount (tcons t l) = suc (tcount l)

-- ---- size: one for each variable, application, function, atom and list; a syntax value counts as w says
unfoldable mutual
  pub tsize_by : (Stx → ℕ) → Tree → ℕ
  tsize_by w (var n) = 1
  tsize_by w (app h l) = suc (tsize_by w h + tsizes_by w l)
  tsize_by w (fun n b) = suc (tsize_by w b)
  tsize_by w (datum a) = 1
  tsize_by w (lst l) = suc (tsizes_by w l)
  tsize_by w (stx s) = w s

  pub tsizes_by : (Stx → ℕ) → Trees → ℕ
  tsizes_by w tnil = 0
  tsizes_by w (tcons t l) = tsize_by w t + tsizes_by w l

-- each syntax value one
unfoldable pub tsize : Tree → ℕ
unfolding tsize_by
tsize t = tsize_by (λ s. 1) t

-- the charge for loading: a syntax value as its object's size
unfoldable pub load_size : Tree → ℕ
unfolding tsize_by size
load_size t = tsize_by size t

-- a syntax value has its object's nesting
unfoldable mutual
  unfolding nesting

  pub tnesting : Tree → ℕ
  tnesting (var n) = 1
  tnesting (app h l) = suc (max (tnesting h) (tnestings l))
  tnesting (fun n b) = suc (tnesting b)
  tnesting (datum a) = 1
  tnesting (lst l) = suc (tnestings l)
  tnesting (stx s) = nesting s

  pub tnestings : Trees → ℕ
  tnestings tnil = 0
  tnestings (tcons t l) = max (tnesting t) (tnestings l)

-- ---- substitute v for the variable n, also inside list values, but not in syntax values nor in a function of the same name
unfoldable mutual
  pub substitute : Name → Tree → Tree → Tree
  substitute n v (var m) = when eqb m n then v else var m
  substitute n v (app h l) = app (substitute n v h) (substitute_all n v l)
  substitute n v (fun m b) = when eqb m n then fun m b else fun m (substitute n v b)
  substitute n v (datum a) = datum a
  substitute n v (lst l) = lst (substitute_all n v l)
  substitute n v (stx s) = stx s

  pub substitute_all : Name → Tree → Trees → Trees
  substitute_all n v tnil = tnil
  substitute_all n v (tcons t l) = tcons (substitute n v t) (substitute_all n v l)

-- ---- the stripped data of an object
unfoldable mutual
  pub strip : Stx → Tree
  strip (atom c a) = datum a
  strip (list c l) = lst (strip_all l)

  pub strip_all : Stxs → Trees
  strip_all nil = tnil
  strip_all (cons s l) = tcons (strip s) (strip_all l)

-- ---- what kind of value

unfoldable pub as_stx : Tree → Option Stx
as_stx (var n) = none
as_stx (app h l) = none
as_stx (fun n b) = none
as_stx (datum a) = none
as_stx (lst l) = none
as_stx (stx s) = some s

unfoldable pub as_atom : Tree → Option Atom
as_atom (var n) = none
as_atom (app h l) = none
as_atom (fun n b) = none
as_atom (datum a) = some a
as_atom (lst l) = none
as_atom (stx s) = none

unfoldable pub as_list : Tree → Option Trees
as_list (var n) = none
as_list (app h l) = none
as_list (fun n b) = none
as_list (datum a) = none
as_list (lst l) = some l
as_list (stx s) = none

unfoldable pub as_number : Atom → Option ℕ
as_number (symbol x) = none
as_number (number x) = some x
as_number (point x) = none
as_number (prim x) = none
as_number (rung x) = none

-- syntax objects as a list value, and back
unfoldable pub from_stxs : Stxs → Trees
from_stxs nil = tnil
from_stxs (cons s l) = tcons (stx s) (from_stxs l)

unfoldable pub to_stxs : Trees → Option Stxs
unfolding as_stx
to_stxs tnil = some nil
to_stxs (tcons t l) = given (as_stx t) (λ s. given (to_stxs l) (λ r. some (cons s r)))
