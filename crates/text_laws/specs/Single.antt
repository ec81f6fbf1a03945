-- A text with single spaces and no comments.
use Rattle.std.specs.Prelude.{ℕ, Bool, true, false, not, ◌&&◌, List, [], ◌∷◌, ◌++◌}
use Rattle.model.specs.Reading.{same_bytes}
use Rattle.requests.specs.Tokens.{cut}

unfoldable pub space_if : Bool → List ℕ → List ℕ
space_if true s = 32 ∷ s
space_if false s = s

-- A space before each piece, but not before the first, not after ( and not before ). `due`: the piece before is there and is no (.
unfoldable pub spaced : Bool → List (List ℕ) → List ℕ
unfolding space_if same_bytes
spaced due [] = []
spaced due (w ∷ l) = space_if (due && not (same_bytes w (41 ∷ []))) (w ++ spaced (not (same_bytes w (40 ∷ []))) l)

unfoldable pub single : List ℕ → List ℕ
unfolding spaced cut
single text = spaced false (cut [] text)
