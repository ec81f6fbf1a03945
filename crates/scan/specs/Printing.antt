-- What printing the lines of all scans needs.
use Rattle.std.specs.Prelude.{ℕ, suc, ◌+◌, ◌≤◌, List, length}
use Rattle.scan_lines.specs.Lengths.{most_fixed, places_length}
use Rattle.scan_runner.specs.Running.{Due}

-- a number of ten digits, and what every line has behind it
abbrev pub most_line : ℕ
most_line = 10 + most_fixed

pub record Printable (recording : List ℕ) (first scans : ℕ) (code places points bits line : List ℕ) : Type 0 where
  pub text : List ℕ
  pub due : Due recording first scans 0 code places points bits text
  pub small : suc (places_length places) ≤ most_fixed
  pub room : most_line ≤ length line
