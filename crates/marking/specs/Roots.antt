-- The root of a judged image, piece by piece.
use Rattle.std.specs.Prelude.{ℕ, ◌≤◌, ◌<◌, ◌≡◌, ◌||◌, List, length, drop}
use Rattle.numbers.specs.Limits.{most_image}
use Rattle.scopes.specs.Sets.{scopes_of, set_scopes}
use Rattle.scopes.specs.declared.ScopeSet.{ScopeSet}
use Rattle.head.specs.Fronts.{most_names}
use Rattle.store.specs.Words.{bind_at}
use Rattle.pieces.specs.Pieces.{Piece, root_pieces, pieces_bytes, PiecesFit, used_among, scopes_among}
use Rattle.marking.specs.Marks.{marked, Markable}

-- from `at` on come the pieces l, and nothing else
pub record Ahead (image : List ℕ) (scopes at : ℕ) (l : List Piece) : Type 0 where
  pub few : scopes ≤ set_scopes
  pub short : length image ≤ most_image
  pub inside : at ≤ length image
  pub bytes : drop at image ≡ pieces_bytes l
  pub fit : PiecesFit scopes l

abbrev pub RootAt : List ℕ → ℕ → ℕ → Type 0
RootAt image scopes root = Ahead image scopes root (root_pieces image)

pub record RootMarkable (store image : List ℕ) (scopes root : ℕ) (lasts befores marks : List ℕ) : Type 0 where
  pub markable : Markable store lasts befores marks
  pub symbols : most_names ≤ length lasts
  pub ahead : RootAt image scopes root

pub record MarksRoot (store image marks marks' : List ℕ) (used : ScopeSet) : Type 0 where
  pub long : length marks' ≡ length marks
  pub are : (i : ℕ) → i < length marks → marked marks' i ≡ (marked marks i || used_among (bind_at store i) (root_pieces image))
  pub scopes-are : scopes_of used ≡ scopes_among (root_pieces image)
