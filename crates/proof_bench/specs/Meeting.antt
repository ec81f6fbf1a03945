-- What it is to meet the contract of a job: for whatever a call can hand over, the answer (code, units, name, length and two places), the output and the
-- table are those of the definition.
use Rattle.std.specs.Prelude.{ℕ, ◌<◌, ◌≡◌, List, [], ◌∷◌, length}
use Rattle.model.specs.Jobs.{Result, resolve_job, expand_job, parse_job, evaluate_job}
use Rattle.codec_laws.specs.WellFormed.{Bytes}

-- ---- what a call can hand over: numbers of 32 bits, and slices of bytes and of words of 32 bits

abbrev pub Number : ℕ → Type 0
Number n = n < 4294967296

abbrev pub Words : List ℕ → Type 0
Words [] = Unit {0}
Words (w ∷ l) = Number w × Words l

pub record Call (image : List ℕ) (ph budget : ℕ) (table output : List ℕ) : Type 0 where
  pub image-bytes : Bytes image
  pub image-length : length image < 18446744073709551616
  pub phase : Number ph
  pub budget-number : Number budget
  pub table-words : Words table
  pub table-length : length table < 18446744073709551616
  pub output-bytes : Bytes output
  pub output-length : length output < 18446744073709551616

-- ---- a result is the expected one, part by part

pub record Meets (expected result : Result) : Type 0 where
  pub answer-is : result.answer ≡ expected.answer
  pub output-is : result.output ≡ expected.output
  pub table_is : result.table ≡ expected.table

-- ---- functions of the jobs' types: image, phase where there is one, budget, the table's and the output's contents

abbrev pub Resolver : Type 0
Resolver = List ℕ → ℕ → ℕ → List ℕ → Result

abbrev pub Expanding : Type 0
Expanding = List ℕ → ℕ → ℕ → List ℕ → List ℕ → Result

-- parse and evaluate
abbrev pub Working : Type 0
Working = List ℕ → ℕ → List ℕ → List ℕ → Result

-- ---- the contracts

abbrev pub MeetsResolve : Resolver → Type 0
MeetsResolve f = (image : List ℕ) (ph budget : ℕ) (table : List ℕ) → Call image ph budget table [] → Meets (resolve_job image ph budget table) (f image ph budget table)

abbrev pub MeetsExpand : Expanding → Type 0
MeetsExpand f =
    (image : List ℕ) (ph budget : ℕ) (table output : List ℕ) → Call image ph budget table output
    → Meets (expand_job image ph budget table output) (f image ph budget table output)

abbrev pub MeetsParse : Working → Type 0
MeetsParse f =
    (image : List ℕ) (budget : ℕ) (table output : List ℕ) → Call image 0 budget table output
    → Meets (parse_job image budget table output) (f image budget table output)

abbrev pub MeetsEvaluate : Working → Type 0
MeetsEvaluate f =
    (image : List ℕ) (budget : ℕ) (table output : List ℕ) → Call image 0 budget table output
    → Meets (evaluate_job image budget table output) (f image budget table output)
