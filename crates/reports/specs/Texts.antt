-- Lines of the report, of the counts that the code keeps.
use Rattle.std.specs.Prelude.{ℕ, ◌*◌, List, [], get_or}
use Rattle.requests.specs.Report.{code_lines}

-- bytes of the longest line: a word of five letters and spaces, two numbers, and a space and a line end
abbrev pub longest_line : ℕ
longest_line = 47

-- lines of the report at most: one for each code, the units and the mean
abbrev pub most_text : ℕ
most_text = 35 * longest_line

-- the lines of the first k codes
unfoldable pub first_codes : ℕ → List ℕ → List ℕ
unfolding code_lines
first_codes k counts = code_lines k 0 (λ c. get_or counts c 0) []
