-- Document 01, 'The image', and of 'Numbers given back' the order of its faults: reading an image from the front, where the first
-- fault decides, a number judged when read, a word or binding when whole.
use Rattle.std.specs.Prelude.{ℕ, zero, suc, ◌+◌, ◌-◌, ◌*◌, Bool, true, false, not, ◌&&◌, ◌||◌, List, [], ◌∷◌, eqb, ltb, leb, length}
use Rattle.model.specs.Choice.{when◌then◌else◌}
use Rattle.model.specs.Limits.{most_scopes, most_names, core_names, most_bindings, most_nesting, most_word_length, most_image, last_point, last_primitive, last_rung_word}
use Rattle.model.specs.Refusals.{Refusal, layout, over_limit, wrong_kind}
use Rattle.model.specs.Scopes.{Scope, Scopes, no_scopes, add}
use Rattle.model.specs.Objects.{Atom, symbol, number, point, prim, rung, Sets, Stx, atom, list, Stxs, nil, cons}
use Rattle.model.specs.Trees.{Tree, var, app, fun, datum, lst, stx, Trees, tnil, tcons}
use Rattle.model.specs.Resolving.{Bind, bind_before}

-- what is read and the bytes after it, or the fault
pub data Read (A : Type 0) : Type 0 where
  got : A → List ℕ → Read A
  fault : Refusal → Read A

abbrev pub Reader : Type 0 → Type 0
Reader A = List ℕ → Read A

abbrev pub next : {A B : Type 0} → Read A → (A → Reader B) → Read B
next (got a s) f = f a s
next (fault c) f = fault c

infixl 10 ◌>>=◌
infixl 10 ◌>>◌
abbrev pub ◌>>=◌ : {A B : Type 0} → Reader A → (A → Reader B) → Reader B
◌>>=◌ m f = λ s. next (m s) f

abbrev pub ◌>>◌ : {A B : Type 0} → Reader A → Reader B → Reader B
◌>>◌ m n = λ s. next (m s) (λ a. n)

abbrev pub give : {A : Type 0} → A → Reader A
give a = λ s. got a s

abbrev pub fail : {A : Type 0} → Refusal → Reader A
fail c = λ s. fault c

-- fault c unless the test holds
abbrev pub need : Refusal → Bool → Reader (Unit {0})
need c true = give tt
need c false = fail c

-- ---- bytes and numbers

unfoldable pub byte : Reader ℕ
byte [] = fault layout
byte (b ∷ s) = got b s

unfoldable pub bytes : ℕ → Reader (List ℕ)
unfolding byte
bytes zero = give []
bytes (suc n) = do
  b ← byte
  r ← bytes n
  give (b ∷ r)

unfoldable pub at_end : Reader (Unit {0})
at_end [] = got tt []
at_end (b ∷ s) = fault layout

-- The groups after the first: n is what they add to, w the next one's weight, and k more come before the fifth, which is the
-- last. Only the shortest form is taken, so a last group here is not 0.
unfoldable pub groups : ℕ → ℕ → ℕ → Reader ℕ
unfolding byte
groups zero w n = do
  b ← byte
  need over_limit (leb b 15)
  need layout (not (eqb b 0))
  give (n + b * w)
groups (suc k) w n = do
  b ← byte
  when ltb b 128
      then (do
        need layout (not (eqb b 0))
        give (n + b * w))
      else groups k (w * 128) (n + (b - 128) * w)

unfoldable pub num : Reader ℕ
unfolding byte groups
num = do
  b ← byte
  when ltb b 128 then give b else groups 3 128 (b - 128)

-- a number that is at most m, else fault c
unfoldable pub num_up_to : Refusal → ℕ → Reader ℕ
unfolding num
num_up_to c m = do
  n ← num
  need c (leb n m)
  give n

-- a number of something declared: below m
unfoldable pub num_below : ℕ → Reader ℕ
unfolding num
num_below m = do
  n ← num
  need layout (ltb n m)
  give n

-- ---- words

-- ( ) ; ' # are 40 41 59 39 35
unfoldable pub word_byte : ℕ → Bool
word_byte b =
    leb 33 b && leb b 126 && not (eqb b 40) && not (eqb b 41) && not (eqb b 59) && not (eqb b 39) && not (eqb b 35)

-- no digit and not @
unfoldable pub first_byte : ℕ → Bool
first_byte b = not (leb 48 b && leb b 57) && not (eqb b 64)

unfoldable pub all_word_bytes : List ℕ → Bool
unfolding word_byte
all_word_bytes [] = true
all_word_bytes (b ∷ l) = word_byte b && all_word_bytes l

unfoldable pub good_word : List ℕ → Bool
unfolding first_byte all_word_bytes
good_word [] = false
good_word (b ∷ l) = first_byte b && all_word_bytes (b ∷ l)

unfoldable pub same_bytes : List ℕ → List ℕ → Bool
same_bytes [] [] = true
same_bytes [] (y ∷ ys) = false
same_bytes (x ∷ xs) [] = false
same_bytes (x ∷ xs) (y ∷ ys) = eqb x y && same_bytes xs ys

unfoldable pub among : List ℕ → List (List ℕ) → Bool
unfolding same_bytes
among w [] = false
among w (v ∷ l) = same_bytes w v || among w l

-- lambda, let-syntax, quote, syntax
unfoldable pub core_words : List (List ℕ)
core_words =
    (108 ∷ 97 ∷ 109 ∷ 98 ∷ 100 ∷ 97 ∷ []) ∷ (108 ∷ 101 ∷ 116 ∷ 45 ∷ 115 ∷ 121 ∷ 110 ∷ 116 ∷ 97 ∷ 120 ∷ [])
    ∷ (113 ∷ 117 ∷ 111 ∷ 116 ∷ 101 ∷ []) ∷ (115 ∷ 121 ∷ 110 ∷ 116 ∷ 97 ∷ 120 ∷ []) ∷ []

-- n words, all different and none of `seen`
unfoldable pub read_words : ℕ → List (List ℕ) → Reader (List (List ℕ))
unfolding num bytes good_word among most_word_length
read_words zero seen = give []
read_words (suc n) seen = do
  k ← num
  need layout (not (eqb k 0))
  need over_limit (leb k most_word_length)
  w ← bytes k
  need layout (good_word w && not (among w seen))
  r ← read_words n (w ∷ seen)
  give (w ∷ r)

-- ---- the head of an image: its words, and the counts of names (core names and words counted) and scopes

pub record Head : Type 0 where
  pub words : List (List ℕ)
  pub names : ℕ
  pub scopes : ℕ

-- symbols are numbered as names 0 to 3 and words
unfoldable pub symbols : Head → ℕ
unfolding core_names
symbols h = core_names + length h.words

unfoldable pub read_head : ℕ → Reader Head
unfolding num num_up_to read_words core_words most_names core_names most_scopes
read_head kind = do
  k ← num
  need layout (eqb k 1 || eqb k 2)
  need wrong_kind (eqb k kind)
  w ← num_up_to over_limit (most_names - core_names)
  ws ← read_words w core_words
  m ← num_up_to over_limit (most_names - core_names - w)
  n ← num_up_to over_limit most_scopes
  give (record { words = ws; names = core_names + w + m; scopes = n })

-- ---- sets

-- c more members, above p and at most n, joined to m
unfoldable pub read_members : ℕ → ℕ → Scope → Scopes → Reader Scopes
unfolding num add
read_members zero n p m = give m
read_members (suc c) n p m = do
  k ← num
  need layout (ltb p k && leb k n)
  read_members c n k (add k m)

unfoldable pub read_set : ℕ → Reader Scopes
unfolding num read_members
read_set n = do
  c ← num
  read_members c n 0 no_scopes

unfoldable pub read_sets : ℕ → Reader Sets
unfolding read_set
read_sets n = do
  a ← read_set n
  b ← read_set n
  c ← read_set n
  give (record { at0 = a; at1 = b; at2 = c })

-- ---- bindings

unfoldable pub read_bind : Head → Reader Bind
unfolding num_below symbols read_set
read_bind h = do
  x ← num_below (symbols h)
  t ← num_below h.names
  s ← read_set h.scopes
  give (record { symb = x; target = t; set = s })

-- c more bindings, each after the one before
unfoldable pub read_binds_after : Head → ℕ → Bind → Reader (List Bind)
unfolding read_bind bind_before
read_binds_after h zero p = give []
read_binds_after h (suc c) p = do
  b ← read_bind h
  need layout (bind_before p b)
  r ← read_binds_after h c b
  give (b ∷ r)

unfoldable pub read_some_binds : Head → ℕ → Reader (List Bind)
unfolding read_bind read_binds_after
read_some_binds h zero = give []
read_some_binds h (suc c) = do
  b ← read_bind h
  r ← read_binds_after h c b
  give (b ∷ r)

unfoldable pub read_binds : Head → Reader (List Bind)
unfolding num_up_to read_some_binds most_bindings
read_binds h = do
  c ← num_up_to over_limit most_bindings
  read_some_binds h c

-- ---- objects

-- an atom's content, by its tag
unfoldable pub read_atom : Head → ℕ → Reader Atom
unfolding num num_up_to num_below symbols last_point last_primitive last_rung_word
read_atom h zero = do
  x ← num_below (symbols h)
  give (symbol x)
read_atom h (suc zero) = do
  x ← num
  give (number x)
read_atom h (suc (suc zero)) = do
  x ← num_up_to over_limit last_point
  give (point x)
read_atom h (suc (suc (suc zero))) = do
  x ← num_up_to over_limit last_primitive
  give (prim x)
read_atom h (suc (suc (suc (suc zero)))) = do
  x ← num_up_to over_limit last_rung_word
  give (rung x)
read_atom h (suc (suc (suc (suc (suc n))))) = fail layout

unfoldable pub read_parts : ℕ → Reader Stx → Reader Stxs
read_parts zero part = give nil
read_parts (suc c) part = do
  s ← part
  r ← read_parts c part
  give (cons s r)

-- what follows the sets c of an object with tag t: of a list, or of an atom
unfoldable pub read_content : Head → Reader Stx → Sets → ℕ → Bool → Reader Stx
unfolding num read_parts read_atom
read_content h part c t true = do
  n ← num
  r ← read_parts n part
  give (list c r)
read_content h part c t false = do
  a ← read_atom h t
  give (atom c a)

-- an object where l levels are left; the part at level 65 is refused before its tag
unfoldable pub read_stx : ℕ → Head → Reader Stx
unfolding num_up_to read_sets read_content
read_stx zero h = fail over_limit
read_stx (suc l) h = do
  t ← num_up_to layout 5
  c ← read_sets h.scopes
  read_content h (read_stx l h) c t (eqb t 5)

-- ---- trees

unfoldable pub read_trees : ℕ → Reader Tree → Reader Trees
read_trees zero part = give tnil
read_trees (suc c) part = do
  t ← part
  r ← read_trees c part
  give (tcons t r)

unfoldable pub read_app : ℕ → Reader Tree → Reader Tree
unfolding read_trees
read_app zero part = fail layout
read_app (suc c) part = do
  f ← part
  r ← read_trees c part
  give (app f r)

-- what follows the tag; `tree`, `value` and `object` read a part
unfoldable pub read_tree_body : Head → Reader Tree → Reader Tree → Reader Stx → ℕ → Reader Tree
unfolding num num_below read_app read_atom read_trees
read_tree_body h tree value object zero = do
  n ← num_below h.names
  give (var n)
read_tree_body h tree value object (suc zero) = do
  n ← num
  read_app n tree
read_tree_body h tree value object (suc (suc zero)) = do
  n ← num_below h.names
  b ← tree
  give (fun n b)
read_tree_body h tree value object (suc (suc (suc zero))) = do
  t ← num
  a ← read_atom h t
  give (datum a)
read_tree_body h tree value object (suc (suc (suc (suc zero)))) = do
  n ← num
  r ← read_trees n value
  give (lst r)
read_tree_body h tree value object (suc (suc (suc (suc (suc zero))))) = do
  s ← object
  give (stx s)
read_tree_body h tree value object (suc (suc (suc (suc (suc (suc n)))))) = fail layout

-- a tree where l levels are left, whose tag is at least t: 0, or 2 for a value. A syntax value's object is at its level.
unfoldable pub read_tree : ℕ → Head → ℕ → Reader Tree
unfolding num read_stx read_tree_body
read_tree zero h low = fail over_limit
read_tree (suc l) h low = do
  t ← num
  need layout (leb low t)
  read_tree_body h (read_tree l h 0) (read_tree l h 2) (read_stx (suc l) h) t

-- ---- whole images

pub record Image (R : Type 0) : Type 0 where
  pub head : Head
  pub binds : List Bind
  pub root : R

-- kind 1
unfoldable pub read_syntax : Reader (Image Stx)
unfolding read_head read_binds read_stx at_end most_nesting
read_syntax = do
  h ← read_head 1
  b ← read_binds h
  r ← read_stx most_nesting h
  at_end
  give (record { head = h; binds = b; root = r })

-- kind 2
unfoldable pub read_tree_image : Reader (Image Tree)
unfolding read_head read_tree at_end most_nesting
read_tree_image = do
  h ← read_head 2
  r ← read_tree most_nesting h 0
  at_end
  give (record { head = h; binds = []; root = r })

unfoldable pub read_image : {R : Type 0} → Reader (Image R) → Reader (Image R)
unfolding most_image
read_image r = λ s. when leb (length s) most_image then r s else fault over_limit
