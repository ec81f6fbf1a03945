-- Marks of bindings: not 0 where an identifier uses the binding.
use Rattle.std.specs.Prelude.{ℕ, ◌<◌, ◌≡◌, Bool, not, ◌&&◌, ◌||◌, List, eqb, length, get_or}
use Rattle.model.specs.Objects as m
use Rattle.model.specs.Resolving.{Bind}
use Rattle.shrinking.specs.Shrunk.{contains}
use Rattle.store.specs.Words.{bind_at}
use Rattle.marking.specs.Chains.{Chained}

abbrev pub marked : List ℕ → ℕ → Bool
marked marks i = not (eqb (get_or marks i 0) 0)

-- an identifier with symbol x uses b
abbrev pub used_by : ℕ → m.Sets → Bind → Bool
used_by x c b = eqb b.symb x && contains b.set c

-- a mark for each binding
pub record Markable (store lasts befores marks : List ℕ) : Type 0 where
  pub chained : Chained store lasts befores
  pub long : length marks ≡ length befores

-- the symbol of an identifier is below the count of chains
pub record Identifies (store lasts befores marks : List ℕ) (x : ℕ) : Type 0 where
  pub markable : Markable store lasts befores marks
  pub below : x < length lasts

-- the identifier's bindings are marked too
pub record Marks (store : List ℕ) (x : ℕ) (c : m.Sets) (marks marks' : List ℕ) : Type 0 where
  pub long : length marks' ≡ length marks
  pub are : (i : ℕ) → i < length marks → marked marks' i ≡ (marked marks i || used_by x c (bind_at store i))
