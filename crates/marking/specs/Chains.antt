-- The bindings of one symbol as a chain. Places of bindings count from 1 here, and 0 is none.
use Rattle.std.specs.Prelude.{ℕ, ◌-◌, ◌*◌, ◌≤◌, ◌<◌, ◌≡◌, List, length, get_or}
use Rattle.store.specs.Words.{bind_at}
use Rattle.store.specs.Sizes.{binding_size}

-- h is the place of the last that has symbol x, of the first n
pub record Last (store : List ℕ) (x n h : ℕ) : Type 0 where
  pub inside : h ≤ n
  pub there : 0 < h → (bind_at store (h - 1)).symb ≡ x
  pub none : (j : ℕ) → h ≤ j → j < n → (bind_at store j).symb ≡ x → ⊥

-- the last of each symbol, and the one of its symbol before each; there are as many bindings as `befores` has places
pub record Chained (store lasts befores : List ℕ) : Type 0 where
  pub held : length befores * binding_size ≤ length store
  pub lasts_are : (x : ℕ) → x < length lasts → Last store x (length befores) (get_or lasts x 0)
  pub befores_are : (i : ℕ) → i < length befores → Last store (bind_at store i).symb i (get_or befores i 0)

-- no chain is begun, and every symbol has a place
pub record Unchained (store lasts befores : List ℕ) : Type 0 where
  pub held : length befores * binding_size ≤ length store
  pub symbols : (i : ℕ) → i < length befores → (bind_at store i).symb < length lasts
  pub empty : (x : ℕ) → get_or lasts x 0 ≡ 0

pub record Chains (store lasts befores lasts' befores' : List ℕ) : Type 0 where
  pub lasts_long : length lasts' ≡ length lasts
  pub befores_long : length befores' ≡ length befores
  pub chained : Chained store lasts' befores'
