-- The limits of an image, and the words as first met, as the code answers them.
use Rattle.std.specs.Prelude.{ℕ, ◌*◌, ◌≡◌, true, false, List, length, Result, Ok, Err}
use Rattle.model.specs.Reading.{core_words}
use Rattle.requests.specs.Tokens.{Token, tokens}
use Rattle.requests.specs.FromText.{met}
use Rattle.text_laws.specs.Passes.{passes_within}
use Rattle.tokens.specs.declared.pieces.Piece.{Piece}
use Rattle.tokens.specs.Pieces.{Means}
use Rattle.tokens.specs.Nexts.{part}
use Rattle.text_reader.specs.Found.{most_words, found, Spans, Sought, Noted}
use Rattle.refusals.specs.declared.Refusal.{Refusal}
use Rattle.refusals.specs.declared.Refusal.TheVariants.{OverLimit}

pub record Placeable (text spans : List ℕ) (n from to : ℕ) : Type 0 where
  pub sought : Sought text spans n from to
  pub space : length spans ≡ most_words * 2

pub record NotesPiece (text spans : List ℕ) (n : ℕ) (p : Piece) (from to : ℕ) (spans' : List ℕ) (r : Result ℕ Refusal) : Type 0 where
  pub same : length spans' ≡ length spans
  pub is : (k : Token) → Means k (part text from to) p → Noted text spans n k spans' r

-- n words are stored, and they are those met
pub record WordsMet (text spans : List ℕ) (n : ℕ) : Type 0 where
  pub within : passes_within (tokens text) ≡ true
  pub stored : Spans text spans n
  pub words : found text spans n ≡ met core_words (tokens text)

abbrev pub LimitedAs : List ℕ → List ℕ → Result ℕ Refusal → Type 0
LimitedAs text spans (Err f) = (f ≡ OverLimit) × (passes_within (tokens text) ≡ false)
LimitedAs text spans (Ok n) = WordsMet text spans n

pub record Limited (text spans : List ℕ) (r : Result ℕ Refusal) : Type 0 where
  pub is : LimitedAs text spans r
