-- Chains of bindings, by the steps that the code takes.
use Prim.Native.Nat.{ℕ, ◌≤◌, ◌<◌}
use mathlib.Core.Path.{◌≡◌}
use mathlib.Core.List.{List}
use lib.ListN.{length, get_or}
use Rattle.store.specs.Words.{bind_at}
use Rattle.marking.specs.Chains.{Last, Unchained}

-- the first i bindings are chained
pub record Chaining (store lasts₀ befores₀ lasts befores : List ℕ) (i : ℕ) : Type 0 where
  pub unchained : Unchained store lasts₀ befores₀
  pub inside : i ≤ length befores₀
  pub lasts_long : length lasts ≡ length lasts₀
  pub befores_long : length befores ≡ length befores₀
  pub lasts_are : (x : ℕ) → x < length lasts₀ → Last store x i (get_or lasts x 0)
  pub befores_are : (j : ℕ) → j < i → Last store (bind_at store j).symb j (get_or befores j 0)
