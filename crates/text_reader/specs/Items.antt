-- What the root of the image has for each token.
use Rattle.std.specs.Prelude.{ℕ, zero, suc, ◌+◌, ◌≤◌, ◌<◌, ◌≡◌, List, [], ◌++◌, true, length, drop, Option, None, Some}
use Rattle.model.specs.Choice.{when◌then◌else◌}
use Rattle.model.specs.Objects.{no_sets}
use Rattle.model.specs.Writing.{num_bytes, sets_bytes}
use Rattle.requests.specs.Tokens.{tokens}
use Rattle.requests.specs.FromText.{all_fit}
use Rattle.text_laws.specs.Passes.{parts_left, token_bytes}
use Rattle.numbers.specs.Limits.{most_image, one_byte_bound}
use Rattle.tokens.specs.declared.pieces.Piece.{Piece}
use Rattle.tokens.specs.Pieces.{is_bad}
use Rattle.text_reader.specs.Found.{all_words, Spans}
use Rattle.text_reader.specs.declared.items.Item.{Item}
use Rattle.text_reader.specs.declared.items.Item.TheVariants.{Nothing, Thing, Long}

-- ---- parts of a list

-- what stands directly in the list is one
unfoldable pub directly : ℕ → ℕ
directly zero = 1
directly (suc d) = 0

pub record Counts (count depth : ℕ) (p : Piece) (r : ℕ) : Type 0 where
  pub is : r ≡ count + (when is_bad p then 0 else directly depth)

-- the count, or one that is too large where it is
pub record Parts (text : List ℕ) (at r : ℕ) : Type 0 where
  pub exact : r ≤ most_image → parts_left 0 (tokens (drop at text)) ≡ r
  pub large : most_image < r → most_image < parts_left 0 (tokens (drop at text))

-- ---- the root

-- the bytes of the root from a place of the text on
abbrev pub root_from : List ℕ → List ℕ → ℕ → ℕ → List ℕ
root_from text spans n at = token_bytes (all_words text spans n) (tokens (drop at text))

-- a thing's own bytes: its tag, three empty sets, and its content
abbrev pub thing_bytes : ℕ → ℕ → List ℕ
thing_bytes tag content = num_bytes tag ++ sets_bytes no_sets ++ num_bytes content

-- a place of a text within its limits
pub record Sound (text spans : List ℕ) (n at : ℕ) : Type 0 where
  pub within : at ≤ length text
  pub stored : Spans text spans n
  pub fits : all_fit (tokens (drop at text)) ≡ true

-- behind these bytes the root goes on at `to`
pub record Steps (text spans : List ℕ) (n at to : ℕ) (bytes : List ℕ) : Type 0 where
  pub onward : at < to
  pub sound : Sound text spans n to
  pub is : root_from text spans n at ≡ bytes ++ root_from text spans n to

abbrev pub ShowsItem : List ℕ → List ℕ → ℕ → ℕ → ℕ → Item → Type 0
ShowsItem text spans n at to Nothing = Steps text spans n at to []
ShowsItem text spans n at to (Thing tag content) = (tag < one_byte_bound) × Steps text spans n at to (thing_bytes tag content)
ShowsItem text spans n at to Long = most_image < length (root_from text spans n at)

abbrev pub ShowsItems : List ℕ → List ℕ → ℕ → ℕ → Option (Item × ℕ) → Type 0
ShowsItems text spans n at None = root_from text spans n at ≡ []
ShowsItems text spans n at (Some r) = ShowsItem text spans n at r.1 r.0

pub record ItemIs (text spans : List ℕ) (n at : ℕ) (r : Option (Item × ℕ)) : Type 0 where
  pub is : ShowsItems text spans n at r
