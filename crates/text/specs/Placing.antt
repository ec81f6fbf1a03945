-- Text in a buffer.
use Rattle.std.specs.Prelude.{ℕ, ◌+◌, ◌≡◌, List, length}
use Rattle.std.proofs.lemmas.List.Edits.{sets}

-- out' is out with these bytes over it from `at` on and no other touched, and `past` is the place behind them
pub record Placed (out : List ℕ) (at : ℕ) (bytes out' : List ℕ) (past : ℕ) : Type 0 where
  pub ends : past ≡ at + length bytes
  pub is : out' ≡ sets out at bytes
