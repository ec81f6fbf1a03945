-- The groups of a number after the first: how many come before the fifth, the next one's weight, and what they add to so far.
use Rattle.std.specs.Prelude.{ℕ, ◌<◌}

-- in bytes
abbrev pub longest_number : ℕ
longest_number = 5

pub data Weighed : ℕ → ℕ → ℕ → Type 0 where
  second : {n : ℕ} → n < 128 → Weighed 3 128 n
  third : {n : ℕ} → n < 16384 → Weighed 2 16384 n
  fourth : {n : ℕ} → n < 2097152 → Weighed 1 2097152 n
  fifth : {n : ℕ} → n < 268435456 → Weighed 0 268435456 n
