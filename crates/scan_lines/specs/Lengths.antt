-- How long the lines are where each value is one digit.
use Rattle.std.specs.Prelude.{ℕ, zero, suc, ◌+◌, List, [], ◌∷◌, eqb, length}
use Rattle.model.specs.Choice.{when◌then◌else◌}
use Rattle.model.specs.Jobs.{digits}
use Rattle.scan_lines.specs.Lines.{marked_places}

-- a recording has a byte for each scan and one for their count, so it has fewer
abbrev pub most_scans : ℕ
most_scans = 65536

-- 1,024 points of eight bytes at most, and the line end
abbrev pub most_fixed : ℕ
most_fixed = 8193

unfoldable pub number_length : ℕ → ℕ
unfolding digits
number_length n = length (digits 10 n [])

-- for each point a space, an at sign, the point, an equals sign and one digit
unfoldable pub places_length : List ℕ → ℕ
unfolding number_length
places_length [] = 0
places_length (x ∷ l) = 4 + number_length x + places_length l

-- one point, where it has a mark
unfoldable pub mark_length : ℕ → ℕ → ℕ
unfolding number_length
mark_length mark x = when eqb mark 0 then 0 else 4 + number_length x

-- and the line end
unfoldable pub fixed_length : List ℕ → ℕ
unfolding places_length marked_places
fixed_length marks = suc (places_length (marked_places marks))

-- n lines, the first of them number k
unfoldable pub lines_length : ℕ → ℕ → ℕ → ℕ
unfolding number_length
lines_length k zero fixed = 0
lines_length k (suc n) fixed = number_length k + fixed + lines_length (suc k) n fixed
