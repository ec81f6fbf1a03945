-- How the table stands for the stops of a local expansion: a bit for each name.
use Rattle.std.specs.Prelude.{◌≡◌, Bool, true, List, [], ◌∷◌, ◌++◌, ℕ, ◌+◌, ◌*◌, ◌/◌, ◌%◌, ◌^◌, ◌≤◌, ◌<◌, eqb, length, get_or}
use Rattle.model.specs.Meanings.{is_among}
use Rattle.table.specs.Words.{Same}
use Rattle.table.specs.Sizes.{table_size}

-- digits of a word
abbrev pub stop_digits : ℕ
stop_digits = 32

abbrev pub stops_size : ℕ
stops_size = 32

-- the names that have a bit: the model's most_names
abbrev pub stop_names : ℕ
stop_names = stops_size * stop_digits

-- the bit of name n among those at z
unfoldable pub bit_of : List ℕ → ℕ → ℕ → Bool
bit_of l z n = eqb (get_or l (z + n / stop_digits) 0 / 2 ^ (n % stop_digits) % 2) 1

-- the bits at z are 1 for the names zs alone
pub record Bits (l : List ℕ) (z : ℕ) (zs : List ℕ) : Type 0 where
  pub small : (n : ℕ) → is_among n zs ≡ true → n < stop_names
  pub told : (n : ℕ) → n < stop_names → bit_of l z n ≡ is_among n zs

-- index z stands for the stops, all of them below top
pub data RepZ (l : List ℕ) : ℕ → ℕ → List ℕ → Type 0 where
  no-stops : {top : ℕ} → RepZ l top 0 []
  some-stops : {top z : ℕ} {zs : List ℕ} → 0 < z → z + stops_size ≤ top → Bits l z zs → RepZ l top z zs

pub record KnownZ (l : List ℕ) (z : ℕ) : Type 0 where
  pub top : ℕ
  pub things : List ℕ
  pub shown : RepZ l top z things
  pub inside : top ≤ length l
  pub small : length l ≤ table_size

pub record IsStopped (l : List ℕ) (z n : ℕ) (r : Bool) : Type 0 where
  pub means : (top : ℕ) (zs : List ℕ) → RepZ l top z zs → r ≡ is_among n zs

-- the words at z are there, and a bit for the name n
pub record Inside (l : List ℕ) (z n : ℕ) : Type 0 where
  pub fits : z + stops_size ≤ length l
  pub small : length l ≤ table_size
  pub named : n < stop_names

pub record NoneYet (l l' : List ℕ) (top at top' : ℕ) : Type 0 where
  pub kept : Same top l l'
  pub place : at ≡ top
  pub grows : top' ≡ top + stops_size
  pub bits : Bits l' at []

pub record Stopped (l l' : List ℕ) (z n : ℕ) : Type 0 where
  pub kept : Same z l l'
  pub after : (k : ℕ) → z + stops_size ≤ k → get_or l' k 0 ≡ get_or l k 0
  pub told : (zs : List ℕ) → Bits l z zs → Bits l' z (zs ++ n ∷ [])
