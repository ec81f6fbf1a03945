-- The code's line as document 01's.
use Rattle.std.specs.Prelude.{ℕ, ◌*◌, ◌≤◌, ◌≡◌, List, length}
use Rattle.model.specs.Jobs as m
use Rattle.numbers.specs.Limits.{most_image}
use Rattle.table.specs.Sizes.{unit_size}
use Rattle.expander.specs.declared.line.Line.{Line}

abbrev pub line_is : Line → m.Line
line_is l = record { code = l.code; units = l.units }

-- units of each of its jobs: the model's program_budget
abbrev pub job_budget : ℕ
job_budget = 400

-- what the program lends a job: the words that its budget pays for, and an output as long as an image may be
pub record Lent (table out : List ℕ) : Type 0 where
  pub words : unit_size * job_budget ≤ length table
  pub bytes : length out ≡ most_image
