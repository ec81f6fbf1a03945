-- The new numbers of scopes, in order.
use Rattle.std.specs.Prelude.{ℕ, ◌≤◌, ◌<◌, ◌≡◌, List, length, get_or}
use Rattle.model.specs.Scopes.{Scopes}
use Rattle.shrinking.specs.Shrunk.{rank}
use Rattle.scopes.specs.Sets.{set_scopes}

-- the new number of each scope stands at its place
pub record Ranked (u : Scopes) (ranks : List ℕ) : Type 0 where
  pub long : set_scopes < length ranks
  pub are : (k : ℕ) → k ≤ set_scopes → get_or ranks k 0 ≡ rank u k
