-- What comes next in a text.
use Rattle.std.specs.Prelude.{ℕ, ◌-◌, ◌≤◌, ◌<◌, ◌≡◌, List, [], ◌∷◌, length, take, drop, Option, None, Some}
use Rattle.requests.specs.Tokens as t
use Rattle.requests.specs.Tokens.{opening, closing, tokens}
use Rattle.tokens.specs.Pieces.{Means}
use Rattle.tokens.specs.declared.pieces.Piece as pieces
use Rattle.tokens.specs.declared.Token.{Token}
use Rattle.tokens.specs.declared.Token.TheVariants.{Open, Close, Piece}

-- from `at` on the first token is k, and `to` is the place past it
pub record Goes (text : List ℕ) (at to : ℕ) (k : t.Token) : Type 0 where
  pub onward : at < to
  pub within : to ≤ length text
  pub here : tokens (drop at text) ≡ k ∷ tokens (drop to text)

-- the bytes of a text from one place to another
abbrev pub part : List ℕ → ℕ → ℕ → List ℕ
part text from to = take (to - from) (drop from text)

pub record PieceAt (text : List ℕ) (at : ℕ) (p : pieces.Piece) (from to : ℕ) : Type 0 where
  pub token : t.Token
  pub goes : Goes text at to token
  pub begins : at ≤ from
  pub ends : from ≤ to
  pub means : Means token (part text from to) p

abbrev pub ShowsToken : List ℕ → ℕ → ℕ → Token → Type 0
ShowsToken text at to Open = Goes text at to opening
ShowsToken text at to Close = Goes text at to closing
ShowsToken text at to (Piece p from) = PieceAt text at p from to

abbrev pub ShowsNext : List ℕ → ℕ → Option (Token × ℕ) → Type 0
ShowsNext text at None = tokens (drop at text) ≡ []
ShowsNext text at (Some r) = ShowsToken text at r.1 r.0

pub record NextIs (text : List ℕ) (at : ℕ) (r : Option (Token × ℕ)) : Type 0 where
  pub is : ShowsNext text at r
