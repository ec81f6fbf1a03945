-- The numbers as document 01's answer.
use Rattle.std.specs.Prelude.{ℕ}
use Rattle.model.specs.Jobs.{Answer}
use Rattle.answer_line.specs.declared.Numbers as code

abbrev pub answer_is : code.Numbers → Answer
answer_is a = record { code = a.code; units = a.units; name = a.name; len = a.length; first = a.first; second = a.second }

-- a code and a length alone
abbrev pub answered : ℕ → ℕ → Answer
answered code len = record { code = code; units = 0; name = 0; len = len; first = 0; second = 0 }
