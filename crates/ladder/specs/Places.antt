-- The values under way as the places of one number, the last value lowest; and what one word makes of it, of the points, and of the bits.
use Rattle.std.specs.Prelude.{ℕ, ◌+◌, ◌-◌, ◌*◌, ◌/◌, ◌%◌, ◌≤◌, ◌<◌, ◌≡◌, List, [], ◌∷◌, eqb, ltb, length, get_or, set}
use Rattle.model.specs.Choice.{when◌then◌else◌}
use Rattle.requests.specs.Scanning.{State}
use Rattle.requests.specs.Binary.{Binary}
use Rattle.ladder.specs.Code.{operands}
use Rattle.ladder.specs.Running.{begun, run, instruction_of, instructions_of, Reaches, Fits}

unfoldable pub number_of : List ℕ → ℕ
number_of [] = 0
number_of (v ∷ l) = number_of l * 2 + v

unfoldable pub series_in : ℕ → ℕ → ℕ
series_in values v = when eqb v 0 then values - values % 2 else values

unfoldable pub parallel_in : ℕ → ℕ → ℕ
parallel_in values v = when eqb v 0 then values else values - values % 2 + 1

unfoldable pub taken_in : ℕ → ℕ → ℕ → ℕ
unfolding series_in parallel_in
taken_in join values v = when eqb join 0 then values * 2 + v else when eqb join 1 then series_in values v else parallel_in values v

unfoldable pub inverse_in : ℕ → ℕ
inverse_in values = when eqb (values % 2) 0 then values + 1 else values - 1

-- `join` in series is 6, in parallel 7; `inverse` is 8
unfoldable pub operated_in : ℕ → ℕ → ℕ
unfolding taken_in inverse_in
operated_in what values = when eqb what 8 then inverse_in values else taken_in (what - 6 + 1) (values / 2) (values % 2)

unfoldable pub values_after : ℕ → ℕ → List ℕ → List ℕ → ℕ → ℕ
unfolding taken_in operated_in
values_after what x points bits values =
    when ltb what 3 then taken_in what values (get_or points x 0) else
    when ltb what 6 then taken_in (what - 3) values (get_or bits x 0) else
    when ltb what 9 then operated_in what values else
    when ltb what 11 then values / 2 else values

-- a coil's value, to point x
unfoldable pub points_after : ℕ → ℕ → List ℕ → ℕ → List ℕ
points_after what x points values = when eqb what 9 then set points x (values % 2) else points

unfoldable pub bits_after : ℕ → ℕ → List ℕ → ℕ → List ℕ
bits_after what x bits values = when eqb what 10 then set bits x (values % 2) else bits

abbrev pub most_number : ℕ
most_number = 9223372036854775808

-- what one step needs
pub record Steady (word : ℕ) (points bits : List ℕ) (values : ℕ) : Type 0 where
  pub points-room : operands ≤ length points
  pub points-binary : Binary points
  pub bits-binary : Binary bits
  pub reaches : Reaches (length bits) (instruction_of word)
  pub small : values < most_number

pub record Stepped (word : ℕ) (points₀ bits₀ : List ℕ) (values₀ : ℕ) (points bits : List ℕ) (values : ℕ) : Type 0 where
  pub values-are : values ≡ values_after (word / operands) (word % operands) points₀ bits₀ values₀
  pub points-are : points ≡ points_after (word / operands) (word % operands) points₀ values₀
  pub bits_are : bits ≡ bits_after (word / operands) (word % operands) bits₀ values₀

-- what running needs
pub record Ready (code points bits : List ℕ) : Type 0 where
  pub points-room : operands ≤ length points
  pub points-binary : Binary points
  pub bits-binary : Binary bits
  pub fits : Fits (length bits) 0 (instructions_of code)

abbrev pub after_code : List ℕ → List ℕ → List ℕ → State
after_code code points bits = (run (instructions_of code) (begun (record { points = points; bits = bits }))).state
