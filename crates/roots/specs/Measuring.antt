-- What the code keeps of a tree that it reads: the charge for loading it, and whether each variable of it, outside syntax values, has
-- an enclosing function of its name. `around` holds for each name whether a function of that name is around the place: not 0.
use Rattle.std.specs.Prelude.{ℕ, zero, suc, ◌+◌, ◌-◌, true, not, ◌&&◌, List, eqb, leb, get_or, set, replicate}
use Rattle.model.specs.Refusals.{layout, over_limit}
use Rattle.model.specs.Reading.{Reader, ◌>>=◌, ◌>>◌, give, fail, need, num, num_below, at_end}
use Rattle.numbers.specs.Limits.{most_nesting}
use Rattle.roots.specs.MeasuredObjects.{read_content_of, measure_stx}
use Rattle.head.specs.declared.Counts.{Counts}
use Rattle.head.specs.Fronts.{most_names}
use Rattle.roots.specs.declared.Extent.{Extent}

-- of no parts
abbrev pub nothing : Extent
nothing = record { size = 0; owned = true }

abbrev pub one_more : Extent → Extent
one_more e = record { size = e.size + 1; owned = e.owned }

abbrev pub joined : Extent → Extent → Extent
joined a e = record { size = a.size + e.size; owned = a.owned && e.owned }

unfoldable pub measure_variable : ℕ → List ℕ → Reader Extent
unfolding num_below
measure_variable names around = do
  n ← num_below names
  give (record { size = 1; owned = not (eqb (get_or around n 0) 0) })

unfoldable pub measure_atom : ℕ → Reader Extent
unfolding num read_content_of
measure_atom symbols = do
  t ← num
  read_content_of symbols t
  give (record { size = 1; owned = true })

unfoldable pub measure_object : ℕ → ℕ → ℕ → Reader Extent
unfolding measure_stx
measure_object symbols scopes levels = do
  n ← measure_stx symbols scopes levels
  give (record { size = n; owned = true })

-- c more parts, joined to what the parts before them came to
unfoldable pub measure_all : ℕ → Extent → Reader Extent → Reader Extent
measure_all zero sum part = give sum
measure_all (suc c) sum part = do
  e ← part
  measure_all c (joined sum e) part

unfoldable pub measure_several : ℕ → Reader Extent → Reader Extent
unfolding num measure_all
measure_several least part = do
  c ← num
  need layout (leb least c)
  e ← measure_all c nothing part
  give (one_more e)

-- a function, whose body `inside` reads for its name
unfoldable pub function_with : ℕ → (ℕ → Reader Extent) → Reader Extent
unfolding num_below
function_with names inside = do
  n ← num_below names
  e ← inside n
  give (one_more e)

-- what follows the tag; `tree`, `value`, `inside` and `object` read a part
unfoldable pub body_with : Counts → List ℕ → Reader Extent → Reader Extent → (ℕ → Reader Extent) → Reader Extent → ℕ → Reader Extent
unfolding measure_variable measure_several function_with measure_atom
body_with k around tree value inside object zero = measure_variable k.names around
body_with k around tree value inside object (suc zero) = measure_several 1 tree
body_with k around tree value inside object (suc (suc zero)) = function_with k.names inside
body_with k around tree value inside object (suc (suc (suc zero))) = measure_atom k.symbols
body_with k around tree value inside object (suc (suc (suc (suc zero)))) = measure_several 0 value
body_with k around tree value inside object (suc (suc (suc (suc (suc zero))))) = object
body_with k around tree value inside object (suc (suc (suc (suc (suc (suc n)))))) = fail layout

-- a tree where l levels are left, whose tag is at least `low`
unfoldable pub measure_tree : Counts → ℕ → ℕ → List ℕ → Reader Extent
unfolding num body_with measure_object
measure_tree k zero low around = fail over_limit
measure_tree k (suc l) low around = do
  t ← num
  need layout (leb low t)
  body_with k around (measure_tree k l 0 around) (measure_tree k l 2 around) (λ n. measure_tree k l 0 (set around n 1)) (measure_object k.symbols k.scopes (suc l)) t

unfoldable pub measure_function : Counts → ℕ → List ℕ → Reader Extent
unfolding function_with measure_tree
measure_function k l around = function_with k.names (λ n. measure_tree k l 0 (set around n 1))

-- what follows the tag, where l levels are left
unfoldable pub measure_body : Counts → ℕ → List ℕ → ℕ → Reader Extent
unfolding body_with measure_tree measure_object
measure_body k l around t =
    body_with k around (measure_tree k (l - 1) 0 around) (measure_tree k (l - 1) 2 around) (λ n. measure_tree k (l - 1) 0 (set around n 1)) (measure_object k.symbols k.scopes l) t

-- ---- roots, behind which the image ends

unfoldable pub then_end : {A : Type 0} → Reader A → Reader A
then_end root = do
  r ← root
  at_end
  give r

unfoldable pub whole_syntax : Counts → Reader ℕ
whole_syntax k = then_end (measure_stx k.symbols k.scopes most_nesting)

-- around the root there is no function
unfoldable pub none_around : List ℕ
none_around = replicate most_names 0

-- with so many levels left and a tag of at least `low`: the root of an image, or a part alone
unfoldable pub whole_tree : Counts → ℕ → ℕ → Reader Extent
whole_tree k levels low = then_end (measure_tree k levels low none_around)
