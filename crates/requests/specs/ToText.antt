-- Document 02, T-05: from a syntax image to text with single spaces and no comments.
use Rattle.std.specs.Prelude.{ℕ, List, [], ◌∷◌, ◌++◌, ltb, get_or}
use Rattle.model.specs.Choice.{when◌then◌else◌}
use Rattle.model.specs.Objects.{Atom, symbol, Stx, atom, list, Stxs, nil, cons}
use Rattle.model.specs.Objects as o
use Rattle.model.specs.Reading.{core_words, Image}
use Rattle.model.specs.Jobs.{digits}
use Rattle.requests.specs.Tokens.{Leaf, word, number, point, prim, rung, rung_words}
use Rattle.requests.specs.FromText.{Obj, leaf, group, Objs, nothing, more}

-- ---- an object without its scopes, symbols by spelling

unfoldable pub leaf_of : List (List ℕ) → Atom → Leaf
leaf_of all (symbol x) = word (get_or all x [])
leaf_of all (o.number n) = number n
leaf_of all (o.point n) = point n
leaf_of all (o.prim n) = prim n
leaf_of all (o.rung n) = rung n

unfoldable mutual
  unfolding leaf_of

  pub spelled : List (List ℕ) → Stx → Obj
  spelled all (atom c a) = leaf (leaf_of all a)
  spelled all (list c l) = group (spelled_all all l)

  pub spelled_all : List (List ℕ) → Stxs → Objs
  spelled_all all nil = nothing
  spelled_all all (cons x l) = more (spelled all x) (spelled_all all l)

-- ---- its text

unfoldable pub rung_text : ℕ → List ℕ
unfolding rung_words digits
rung_text n = when ltb n 6 then get_or rung_words n [] else digits 10 n []

unfoldable pub leaf_text : Leaf → List ℕ
unfolding digits rung_text
leaf_text (word w) = w
leaf_text (number n) = digits 10 n []
leaf_text (point n) = 64 ∷ digits 10 n []
leaf_text (prim n) = 35 ∷ digits 10 n []
leaf_text (rung n) = 39 ∷ rung_text n

-- an object, and what stands after it; a space before each part but the first
unfoldable mutual
  unfolding leaf_text

  pub object_text : Obj → List ℕ → List ℕ
  object_text (leaf l) after = leaf_text l ++ after
  object_text (group l) after = 40 ∷ parts_text l (41 ∷ after)

  pub parts_text : Objs → List ℕ → List ℕ
  parts_text nothing after = after
  parts_text (more x l) after = object_text x (further_text l after)

  pub further_text : Objs → List ℕ → List ℕ
  further_text nothing after = after
  further_text (more x l) after = 32 ∷ object_text x (further_text l after)

unfoldable pub written : Image Stx → Obj
unfolding core_words spelled
written i = spelled (core_words ++ i.head.words) i.root

unfoldable pub print_text : Image Stx → List ℕ
unfolding written object_text
print_text i = object_text (written i) []
