-- Document 01, 'Things and their numbers': atoms and syntax objects; their size and nesting; and, of 'Expanding', what adding,
-- flipping and pruning a scope do to an object.
use Rattle.std.specs.Prelude.{ℕ, zero, suc, ◌+◌, max, Bool, ◌&&◌, eqb}
use Rattle.model.specs.Scopes.{Scope, Scopes, no_scopes, add, flip, prune}

-- names 0 to 3 are the core forms'; then come the image's words, then made names. Symbols are numbered as names 0 to 3 and words
abbrev pub Name : Type 0
Name = ℕ

abbrev pub Symbol : Type 0
Symbol = ℕ

abbrev pub Phase : Type 0
Phase = ℕ

-- number 0 to 4,294,967,295; point 0 to 1023, a terminal of the panel; primitive 0 to 9; rung word 0 to 15
pub data Atom : Type 0 where
  symbol : Symbol → Atom
  number point prim rung : ℕ → Atom
  deriving Discrete as Atom-discrete
  deriving IsSet as Atom-set

-- an atom's kind, as its tag in an image, and its content
unfoldable pub tag_of : Atom → ℕ
tag_of (symbol x) = 0
tag_of (number x) = 1
tag_of (point x) = 2
tag_of (prim x) = 3
tag_of (rung x) = 4

unfoldable pub content_of : Atom → ℕ
content_of (symbol x) = x
content_of (number x) = x
content_of (point x) = x
content_of (prim x) = x
content_of (rung x) = x

unfoldable pub same_atom : Atom → Atom → Bool
unfolding tag_of content_of
same_atom a b = eqb (tag_of a) (tag_of b) && eqb (content_of a) (content_of b)

-- ---- three scope sets, one each for phases 0, 1 and 2

pub record Sets : Type 0 where
  pub at0 : Scopes
  pub at1 : Scopes
  pub at2 : Scopes

unfoldable pub no_sets : Sets
no_sets = record { at0 = no_scopes; at1 = no_scopes; at2 = no_scopes }

-- 2 is the last phase: a larger one is refused with 12 before it is asked for
unfoldable pub set_at : Phase → Sets → Scopes
set_at zero c = c.at0
set_at (suc zero) c = c.at1
set_at (suc (suc p)) c = c.at2

unfoldable pub change_at : (Scopes → Scopes) → Phase → Sets → Sets
change_at f zero c = record { at0 = f c.at0; at1 = c.at1; at2 = c.at2 }
change_at f (suc zero) c = record { at0 = c.at0; at1 = f c.at1; at2 = c.at2 }
change_at f (suc (suc p)) c = record { at0 = c.at0; at1 = c.at1; at2 = f c.at2 }

-- ---- a syntax object: an atom or a list of syntax objects, with three scope sets. An identifier is a symbol syntax object.

mutual
  pub data Stx : Type 0 where
    atom : Sets → Atom → Stx
    list : Sets → Stxs → Stx

  pub data Stxs : Type 0 where
    nil : Stxs
    cons : Stx → Stxs → Stxs

unfoldable pub count : Stxs → ℕ
count nil = 0
count (cons s l) = suc (count l)

-- atoms plus lists
unfoldable mutual
  pub size : Stx → ℕ
  size (atom c a) = 1
  size (list c l) = suc (sizes l)

  pub sizes : Stxs → ℕ
  sizes nil = 0
  sizes (cons s l) = size s + sizes l

-- an atom 1, an empty list 1, else one more than the deepest part
unfoldable mutual
  pub nesting : Stx → ℕ
  nesting (atom c a) = 1
  nesting (list c l) = suc (nestings l)

  pub nestings : Stxs → ℕ
  nestings nil = 0
  nestings (cons s l) = max (nesting s) (nestings l)

-- ---- a change of sets that reaches every part
unfoldable mutual
  pub on_sets : (Sets → Sets) → Stx → Stx
  on_sets f (atom c a) = atom (f c) a
  on_sets f (list c l) = list (f c) (on_sets_all f l)

  pub on_sets_all : (Sets → Sets) → Stxs → Stxs
  on_sets_all f nil = nil
  on_sets_all f (cons s l) = cons (on_sets f s) (on_sets_all f l)

unfoldable pub add_scope : Scope → Phase → Stx → Stx
unfolding on_sets change_at add
add_scope k ph s = on_sets (change_at (add k) ph) s

unfoldable pub flip_scope : Scope → Phase → Stx → Stx
unfolding on_sets change_at flip
flip_scope k ph s = on_sets (change_at (flip k) ph) s

unfoldable pub prune_scopes : Scopes → Phase → Stx → Stx
unfolding on_sets change_at prune
prune_scopes p ph s = on_sets (change_at (prune p) ph) s
