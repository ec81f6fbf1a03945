-- The bindings that are marked.
use Rattle.std.specs.Prelude.{ℕ, suc, ◌≤◌, ◌≡◌, List, [], ◌∷◌, length}
use Rattle.std.specs.Int.Bits.{bit_or}
use Rattle.model.specs.Choice.{when◌then◌else◌}
use Rattle.model.specs.Scopes.{Scopes}
use Rattle.model.specs.Resolving.{Bind}
use Rattle.shrinking.specs.Shrunk.{scopes_bound}
use Rattle.scopes.specs.Sets.{scopes_of}
use Rattle.store.specs.Words.{binds_of}
use Rattle.marking.specs.declared.kept.Kept.{Kept}
use Rattle.marking.specs.Marks.{marked}

-- of bindings whose marks stand from i on
unfoldable pub kept_from : List ℕ → ℕ → List Bind → List Bind
kept_from marks i [] = []
kept_from marks i (b ∷ l) = when marked marks i then b ∷ kept_from marks (suc i) l else kept_from marks (suc i) l

-- of the store's
abbrev pub kept_of : List ℕ → List ℕ → List Bind
kept_of marks store = kept_from marks 0 (binds_of store (length marks))

pub record Keeps (store marks : List ℕ) (used : Scopes) (r : Kept) : Type 0 where
  pub count-is : r.count ≡ length (kept_of marks store)
  pub few : r.count ≤ length marks
  pub scopes-are : scopes_of r.scopes ≡ bit_or (scopes_bound (kept_of marks store)) used
