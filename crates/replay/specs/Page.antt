-- Where lines start on the page.
use Rattle.std.specs.Prelude.{ℕ, leb}
use Rattle.model.specs.Choice.{when◌then◌else◌}

-- at the latest
abbrev pub last_start : ℕ
last_start = 65536

-- behind so many bytes, or on the page that is empty once those are written
abbrev pub start_of : ℕ → ℕ
start_of count = when leb count last_start then count else 0
