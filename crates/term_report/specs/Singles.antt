-- The code's answer to an image as the report's.
use Rattle.std.specs.Prelude.{ℕ, ◌*◌, ◌≤◌, ◌≡◌, List, length}
use Rattle.model.specs.Jobs.{Line}
use Rattle.numbers.specs.Limits.{most_image}
use Rattle.table.specs.Sizes.{unit_size}
use Rattle.term_report.specs.declared.single.Single.{Single}

abbrev pub line_is : Single → Line
line_is a = record { code = a.code; units = a.units }

-- units: the model's program_budget
abbrev pub budget : ℕ
budget = 400

-- what the program lends the job: the words that its budget pays for, and an output as long as an image may be
pub record Lent (table out : List ℕ) : Type 0 where
  pub words : unit_size * budget ≤ length table
  pub bytes : length out ≡ most_image
