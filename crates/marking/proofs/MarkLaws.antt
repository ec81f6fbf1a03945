-- Bindings marked along a chain, by the steps that the code takes.
use Prim.Native.Nat.{ℕ, ◌-◌, ◌≤◌, ◌<◌}
use mathlib.Core.Path.{◌≡◌}
use mathlib.Core.Bool.{◌||◌}
use mathlib.Core.List.{List}
use lib.ListN.{length, get_or}
use Rattle.model.specs.Objects as m
use Rattle.store.specs.Words.{bind_at}
use Rattle.marking.specs.Marks.{marked, used_by, Markable}

-- ---- along the chain

-- the bindings from `place` on are marked
pub record Marking (store lasts befores : List ℕ) (x : ℕ) (c : m.Sets) (marks₀ marks : List ℕ) (place : ℕ) : Type 0 where
  pub markable : Markable store lasts befores marks₀
  pub long : length marks ≡ length marks₀
  pub inside : place ≤ length befores
  pub there : 0 < place → (bind_at store (place - 1)).symb ≡ x
  pub below : (i : ℕ) → i < place → get_or marks i 0 ≡ get_or marks₀ i 0
  pub above : (i : ℕ) → place ≤ i → i < length befores → marked marks i ≡ (marked marks₀ i || used_by x c (bind_at store i))
