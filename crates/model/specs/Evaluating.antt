-- Document 01, 'Parsing and evaluating': evaluating a tree.
use Rattle.std.specs.Prelude.{ℕ, zero, suc, Bool, true, false, not, List, [], ◌∷◌, eqb}
use Rattle.std.proofs.Math.Option.{Option, none, some}
use Rattle.model.specs.Choice.{when◌then◌else◌, given}
use Rattle.model.specs.Refusals.{unowned, not_applicable, wrong_argument, outside_use}
use Rattle.model.specs.Scopes.{Scope}
use Rattle.model.specs.Objects.{Name, Symbol, Phase, Atom, symbol, number, point, prim, rung, Sets, Stx, atom, list, same_atom}
use Rattle.model.specs.Trees.{Tree, var, app, fun, datum, lst, stx, Trees, tnil, tcons, tcount, tsize, substitute, as_stx, as_atom, as_list, as_number, from_stxs, to_stxs}
use Rattle.model.specs.Meanings.{Meaning, core, variable, macro, stopped, unknown, meaning, meaning_among, Surroundings, with_stops, Place, nowhere, macro_use}
use Rattle.model.specs.Steps.{Step, ◌>>=◌, ◌>>◌, done, refuse, unless, charge, made_tree, flip_in, prune_from, uses_now, resolve_at}

-- ---- primitives

pub data Plain : Type 0 where
  stx_e mk_stx first rest link same pick : Plain

-- request T-08, source document 000's local-value, local-expand and local-binder
pub data Local : Type 0 where
  meaning_of expand_in binder_of : Local

pub data Primitive : Type 0 where
  plain : Plain → Primitive
  local : Local → Primitive

-- the primitives are numbers 0 to 9. No image holds a larger one, and none is made
unfoldable pub primitive_of : ℕ → Option Primitive
primitive_of zero = some (plain stx_e)
primitive_of (suc zero) = some (plain mk_stx)
primitive_of (suc (suc zero)) = some (plain first)
primitive_of (suc (suc (suc zero))) = some (plain rest)
primitive_of (suc (suc (suc (suc zero)))) = some (plain link)
primitive_of (suc (suc (suc (suc (suc zero))))) = some (plain same)
primitive_of (suc (suc (suc (suc (suc (suc zero)))))) = some (plain pick)
primitive_of (suc (suc (suc (suc (suc (suc (suc zero))))))) = some (local meaning_of)
primitive_of (suc (suc (suc (suc (suc (suc (suc (suc zero)))))))) = some (local expand_in)
primitive_of (suc (suc (suc (suc (suc (suc (suc (suc (suc zero))))))))) = some (local binder_of)
primitive_of (suc (suc (suc (suc (suc (suc (suc (suc (suc (suc n)))))))))) = none

-- how many arguments
unfoldable pub arity : Primitive → ℕ
arity (plain stx_e) = 1
arity (plain mk_stx) = 2
arity (plain first) = 1
arity (plain rest) = 1
arity (plain link) = 2
arity (plain same) = 2
arity (plain pick) = 3
arity (local meaning_of) = 1
arity (local expand_in) = 2
arity (local binder_of) = 1

unfoldable pub content : Stx → Tree
unfolding from_stxs
content (atom c a) = datum a
content (list c l) = lst (from_stxs l)

unfoldable pub sets_of : Stx → Sets
sets_of (atom c a) = c
sets_of (list c l) = c

unfoldable pub remade : Sets → Tree → Option Stx
unfolding to_stxs
remade c (var n) = none
remade c (app h l) = none
remade c (fun n b) = none
remade c (datum a) = some (atom c a)
remade c (lst l) = given (to_stxs l) (λ r. some (list c r))
remade c (stx s) = none

unfoldable pub first_of : Trees → Option Tree
first_of tnil = none
first_of (tcons t l) = some t

unfoldable pub rest_of : Trees → Option Tree
rest_of tnil = none
rest_of (tcons t l) = some (lst l)

unfoldable pub picked : ℕ → Tree → Tree → Tree
picked zero a b = b
picked (suc n) a b = a

-- primitive p of a, b and c; those past its count are not looked at. None where an argument is of the wrong kind (11)
unfoldable pub primitive : Plain → Tree → Tree → Tree → Option Tree
unfolding as_stx content remade sets_of as_list first_of rest_of as_atom same_atom as_number picked
primitive stx_e a b c = given (as_stx a) (λ s. some (content s))
primitive mk_stx a b c = given (as_stx b) (λ s. given (remade (sets_of s) a) (λ r. some (stx r)))
primitive first a b c = given (as_list a) first_of
primitive rest a b c = given (as_list a) rest_of
primitive link a b c = given (as_list b) (λ l. some (lst (tcons a l)))
primitive same a b c = given (as_atom a) (λ x. given (as_atom b) (λ y. some (datum (number (when same_atom x y then 1 else 0)))))
primitive pick a b c = given (as_atom a) (λ x. given (as_number x) (λ k. some (picked k b c)))

-- what f does with an argument of the right kind
unfoldable pub or_wrong_kind : {A : Type 0} → Option A → (A → Step Tree) → Step Tree
or_wrong_kind none f = refuse wrong_argument
or_wrong_kind (some a) f = f a

-- ---- request T-08: primitives 7 to 9 in a macro use, after source document 000. `expander here x` expands x there, as a further entry. What they
-- give was made before, or differs from a piece that was tested in its sets only, so it needs no test for 17.

abbrev pub Expander : Type 0
Expander = Surroundings → Stx → Step Stx

pub record Id : Type 0 where
  pub sets : Sets
  pub symb : Symbol

unfoldable pub id_of : Stx → Option Id
id_of (atom c (symbol x)) = some (record { sets = c; symb = x })
id_of (atom c (number x)) = none
id_of (atom c (point x)) = none
id_of (atom c (prim x)) = none
id_of (atom c (rung x)) = none
id_of (list c l) = none

unfoldable pub as_id : Tree → Option Id
unfolding as_stx id_of
as_id t = given (as_stx t) id_of

unfoldable pub as_ids : Trees → Option (List Id)
unfolding as_id
as_ids tnil = some []
as_ids (tcons t l) = given (as_id t) (λ i. given (as_ids l) (λ r. some (i ∷ r)))

-- a meaning that is no macro's value is of the wrong kind, and so is a name without meaning
unfoldable pub macro_value : Meaning → Step Tree
macro_value (core f) = refuse wrong_argument
macro_value (variable c x) = refuse wrong_argument
macro_value (macro v) = done v
macro_value stopped = refuse wrong_argument
macro_value unknown = refuse wrong_argument

-- 7: the meaning of an identifier
unfoldable pub value_of : Surroundings → Id → Step Tree
unfolding resolve_at meaning_among macro_value
value_of here i = do
  n ← resolve_at here.phase i.sets i.symb
  macro_value (meaning_among n here.meanings here.stops)

unfoldable pub known : Meaning → Bool
known (core f) = true
known (variable c x) = true
known (macro v) = true
known stopped = true
known unknown = false

-- the names of the stops, each of which must have a meaning. The stops of before are taken off, so they are not asked for
unfoldable pub stop_names : Surroundings → List Id → Step (List Name)
unfolding resolve_at meaning known
stop_names here [] = done []
stop_names here (i ∷ l) = do
  n ← resolve_at here.phase i.sets i.symb
  unless wrong_argument (known (meaning n here.meanings))
  r ← stop_names here l
  done (n ∷ r)

-- 8: x expanded where the macro is used, with the stops ids alone
unfoldable pub expand_within : Expander → Scope → Surroundings → Stx → List Id → Step Tree
unfolding stop_names flip_in
expand_within expander intro here x ids = do
  z ← stop_names here ids
  y ← flip_in intro here.phase x
  r ← expander (with_stops z here) y
  back ← flip_in intro here.phase r
  done (stx back)

-- 9: an identifier fit to bind, without the current use scopes
unfoldable pub fit_to_bind : Phase → Id → Step Tree
unfolding uses_now prune_from
fit_to_bind ph i = do
  u ← uses_now
  y ← prune_from u ph (atom i.sets (symbol i.symb))
  done (stx y)

-- p of a and b; b is looked at by 8 alone
unfoldable pub apply_local : Expander → Place → Local → Tree → Tree → Step Tree
unfolding or_wrong_kind as_id as_ids as_stx as_list value_of expand_within fit_to_bind
apply_local expander nowhere p a b = refuse outside_use
apply_local expander (macro_use intro here) meaning_of a b = or_wrong_kind (as_id a) (value_of here)
apply_local expander (macro_use intro here) expand_in a b =
    or_wrong_kind (as_stx a) (λ x. or_wrong_kind (given (as_list b) as_ids) (expand_within expander intro here x))
apply_local expander (macro_use intro here) binder_of a b = or_wrong_kind (as_id a) (fit_to_bind here.phase)

-- ---- one entry. `self place t` evaluates t there, as a further entry.

abbrev pub Evaluator : Type 0
Evaluator = Place → Tree → Step Tree

unfoldable pub takes : Option Primitive → ℕ → Bool
unfolding arity
takes none n = false
takes (some p) n = eqb n (arity p)

-- value f can be applied to n arguments
unfoldable pub applicable : Tree → ℕ → Bool
unfolding primitive_of takes
applicable (var m) n = false
applicable (app h l) n = false
applicable (fun m b) n = eqb n 1
applicable (datum (symbol x)) n = false
applicable (datum (number x)) n = false
applicable (datum (point x)) n = false
applicable (datum (prim p)) n = takes (primitive_of p) n
applicable (datum (rung x)) n = false
applicable (lst l) n = false
applicable (stx s) n = false

unfoldable pub as_primitive : Atom → Option Primitive
unfolding primitive_of
as_primitive (symbol x) = none
as_primitive (number x) = none
as_primitive (point x) = none
as_primitive (prim p) = primitive_of p
as_primitive (rung x) = none

-- a primitive that wants 000's introduction scope
unfoldable pub wants_use : Option Primitive → Bool
wants_use none = false
wants_use (some (plain p)) = false
wants_use (some (local p)) = true

unfoldable pub is_local : Tree → Bool
unfolding as_atom as_primitive wants_use
is_local f = wants_use (given (as_atom f) as_primitive)

-- request T-08: value f can be applied at this place
unfoldable pub allowed : Place → Tree → Bool
unfolding is_local
allowed nowhere f = not (is_local f)
allowed (macro_use intro here) f = true

unfoldable pub each_tree : (Tree → Step Tree) → Trees → Step Trees
each_tree self tnil = done tnil
each_tree self (tcons t l) = do
  v ← self t
  r ← each_tree self l
  done (tcons v r)

-- argument i of l. Where there is none it is something that no primitive looks at, since `applicable` has held the count against `arity`
unfoldable pub argument : Trees → ℕ → Tree
argument tnil i = lst tnil
argument (tcons t l) zero = t
argument (tcons t l) (suc i) = argument l i

unfoldable pub apply_primitive : Expander → Place → Option Primitive → Trees → Step Tree
unfolding charge argument primitive or_wrong_kind made_tree apply_local
apply_primitive expander place none l = refuse not_applicable
apply_primitive expander place (some (plain p)) l = do
  charge 1
  or_wrong_kind (primitive p (argument l 0) (argument l 1) (argument l 2)) made_tree
apply_primitive expander place (some (local p)) l = do
  charge 1
  apply_local expander place p (argument l 0) (argument l 1)

-- an applicable value applied
unfoldable pub apply : Evaluator → Expander → Place → Tree → Trees → Step Tree
unfolding charge made_tree substitute tsize argument primitive_of apply_primitive
apply self expander place (var m) l = refuse not_applicable
apply self expander place (app h k) l = refuse not_applicable
apply self expander place (fun n b) l = do
  charge (tsize b)
  t ← made_tree (substitute n (argument l 0) b)
  self place t
apply self expander place (datum (symbol x)) l = refuse not_applicable
apply self expander place (datum (number x)) l = refuse not_applicable
apply self expander place (datum (point x)) l = refuse not_applicable
apply self expander place (datum (prim p)) l = apply_primitive expander place (primitive_of p) l
apply self expander place (datum (rung x)) l = refuse not_applicable
apply self expander place (lst k) l = refuse not_applicable
apply self expander place (stx s) l = refuse not_applicable

unfoldable pub eval_entry : Evaluator → Expander → Place → Tree → Step Tree
unfolding applicable allowed tcount each_tree apply
-- no closed tree comes to a variable: the job tests 3 first, and what expand parses is closed (condition 3)
eval_entry self expander place (var n) = refuse unowned
eval_entry self expander place (app h l) = do
  f ← self place h
  unless not_applicable (applicable f (tcount l))
  unless outside_use (allowed place f)
  vs ← each_tree (self place) l
  apply self expander place f vs
eval_entry self expander place (fun n b) = done (fun n b)
eval_entry self expander place (datum a) = done (datum a)
eval_entry self expander place (lst l) = done (lst l)
eval_entry self expander place (stx s) = done (stx s)
