-- Numbers of the stream, and inputs.
use Rattle.std.specs.Prelude.{ℕ, ◌+◌, ◌≤◌, ◌≡◌, Bool, false, ◌||◌, eqb, ltb, Result, Ok, Err}
use Rattle.model.specs.Choice.{when◌then◌else◌}
use Rattle.replay.specs.declared.stream.Input.{Input}
use Rattle.replay.specs.declared.stream.Cut.{Cut}

-- what the groups of a number come to: more than 32 bits break the format
abbrev pub whole_of : ℕ → Input → Result (ℕ × Input) Cut
whole_of value past = when ltb 4294967295 value then Err (record {}) else Ok (value, past)

-- an input that was read has so many bytes at most
abbrev pub Within : ℕ → Result (ℕ × Input) Cut → Type 0
Within most r = (n : ℕ) (past : Input) → r ≡ Ok (n, past) → n ≤ most

-- what a job has behind the image: jobs 5 and 9 one input, job 10 two, the others none
abbrev pub has_more : ℕ → Bool
has_more job = eqb job 5 || eqb job 9 || eqb job 10

-- two inputs, of which the first has k bytes
pub record Both (k : ℕ) (r : Result (ℕ × ℕ × Input) Cut) : Type 0 where
  pub first : (j n : ℕ) (past : Input) → r ≡ Ok (j, n, past) → j ≡ k
  pub within : (j n : ℕ) (past : Input) → r ≡ Ok (j, n, past) → (k ≤ n) × (n ≤ k + 70000)

-- the first input has k bytes, and all have n
pub record Behind (job : ℕ) (r : Result (ℕ × ℕ × Input) Cut) : Type 0 where
  pub within : (k n : ℕ) (past : Input) → r ≡ Ok (k, n, past) → (k ≤ 70000) × (k ≤ n) × (n ≤ 140000)
  pub one : (job ≡ 10 → ⊥) → (k n : ℕ) (past : Input) → r ≡ Ok (k, n, past) → k ≡ n
  pub none : has_more job ≡ false → (k n : ℕ) (past : Input) → r ≡ Ok (k, n, past) → n ≡ 0
