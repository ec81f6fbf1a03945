-- Digits, and the number that they make.
use Rattle.std.specs.Prelude.{ℕ, ◌≤◌, ◌<◌, ◌≡◌, List, true, false, Result, Ok, Err}
use Rattle.requests.specs.Tokens.{numeral, value}
use Rattle.tokens.specs.declared.decimals.DecimalError.{DecimalError}
use Rattle.tokens.specs.declared.decimals.DecimalError.TheVariants.{NoNumeral, TooLarge}

-- one more than the largest number of an image
abbrev pub over : ℕ
over = 4294967296

-- the number, or one that is too large where it is
pub record Valued (s : List ℕ) (r : ℕ) : Type 0 where
  pub exact : r < over → value 0 s ≡ r
  pub large : over ≤ r → over ≤ value 0 s

abbrev pub ShowsDecimal : List ℕ → Result ℕ DecimalError → Type 0
ShowsDecimal s (Ok n) = (numeral s ≡ true) × (value 0 s ≡ n)
ShowsDecimal s (Err NoNumeral) = numeral s ≡ false
ShowsDecimal s (Err TooLarge) = (numeral s ≡ true) × (over ≤ value 0 s)

pub record DecimalIs (s : List ℕ) (r : Result ℕ DecimalError) : Type 0 where
  pub is : ShowsDecimal s r
