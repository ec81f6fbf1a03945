-- Document 02, T-13, term report: how a file falls into images, the answers to them, and the report of a list of answers.
use Rattle.std.specs.Prelude.{ℕ, zero, suc, ◌+◌, ◌/◌, ◌%◌, Bool, true, false, List, [], ◌∷◌, eqb, leb, length, take, drop}
use Rattle.std.proofs.Math.Option.{Option, none, some}
use Rattle.model.specs.Choice.{when◌then◌else◌, given}
use Rattle.model.specs.Limits.{most_image, program_budget}
use Rattle.model.specs.Reading.{Read, got, fault, num}
use Rattle.model.specs.Jobs.{Line, line_of, expand_ending, digits}

-- ---- a file of images, each with its length before it in groups of seven bits; none where a length is malformed, or the file ends
-- inside a length or an image

-- an image of the length read, and the bytes after it
unfoldable pub cut_off : Read ℕ → Option (List ℕ × List ℕ)
cut_off (fault c) = none
cut_off (got n s) = when leb n (length s) then some (take n s, drop n s) else none

-- one image and the others, which `rest` gives of the bytes after it
abbrev pub and_then : (List ℕ → Option (List (List ℕ))) → Option (List ℕ × List ℕ) → Option (List (List ℕ))
and_then rest o = given o (λ r. given (rest r.1) (λ l. some (r.0 ∷ l)))

unfoldable pub first_of : (List ℕ → Option (List (List ℕ))) → List ℕ → Option (List (List ℕ))
unfolding cut_off num
first_of rest [] = some []
first_of rest (b ∷ s) = and_then rest (cut_off (num (b ∷ s)))

-- at most f images: each takes at least its length's byte, so the file's own length is enough
unfoldable pub divided : ℕ → List ℕ → Option (List (List ℕ))
unfolding first_of
divided zero s = first_of (λ t. none) s
divided (suc f) s = first_of (divided f) s

unfoldable pub images_of : List ℕ → Option (List (List ℕ))
unfolding divided
images_of file = divided (length file) file

-- ---- each answer is that of the single job, expanding at phase 0, with the program's budget

unfoldable pub single : List ℕ → Line
unfolding line_of expand_ending program_budget most_image
single image = line_of 0 (expand_ending image 0 program_budget most_image)

unfoldable pub answers_to : List (List ℕ) → List Line
unfolding single
answers_to [] = []
answers_to (i ∷ l) = single i ∷ answers_to l

unfoldable pub answers_in : List ℕ → Option (List Line)
unfolding images_of answers_to
answers_in file = given (images_of file) (λ l. some (answers_to l))

-- ---- the totals: sums over a list of answers

unfoldable pub one_if : Bool → ℕ
one_if true = 1
one_if false = 0

unfoldable pub times_given : ℕ → List Line → ℕ
unfolding one_if
times_given c [] = 0
times_given c (a ∷ l) = one_if (eqb c a.code) + times_given c l

unfoldable pub units_of : List Line → ℕ
units_of [] = 0
units_of (a ∷ l) = a.units + units_of l

-- ---- the report

-- no code is larger
unfoldable pub last_code : ℕ
last_code = 32

-- `code`, the code and its count, of a code that was given
unfoldable pub code_line : ℕ → ℕ → List ℕ → List ℕ
unfolding digits
code_line c zero after = after
code_line c (suc n) after = 99 ∷ 111 ∷ 100 ∷ 101 ∷ 32 ∷ digits 20 c (32 ∷ digits 20 (suc n) (10 ∷ after))

-- k codes from c on
unfoldable pub code_lines : ℕ → ℕ → (ℕ → ℕ) → List ℕ → List ℕ
unfolding code_line
code_lines zero c times after = after
code_lines (suc k) c times after = code_line c (times c) (code_lines k (suc c) times after)

-- `units` and the total
unfoldable pub units_line : ℕ → List ℕ → List ℕ
unfolding digits
units_line total after = 117 ∷ 110 ∷ 105 ∷ 116 ∷ 115 ∷ 32 ∷ digits 20 total (10 ∷ after)

-- `mean`, whole quotient and remainder over the number of images, or `mean none`
unfoldable pub mean_line : ℕ → ℕ → List ℕ
unfolding digits
mean_line zero total = 109 ∷ 101 ∷ 97 ∷ 110 ∷ 32 ∷ 110 ∷ 111 ∷ 110 ∷ 101 ∷ 10 ∷ []
mean_line (suc n) total = 109 ∷ 101 ∷ 97 ∷ 110 ∷ 32 ∷ digits 20 (total / suc n) (32 ∷ digits 20 (total % suc n) (10 ∷ []))

-- of how often each code was given, the units of all, and the number of images
unfoldable pub report_of : (ℕ → ℕ) → ℕ → ℕ → List ℕ
unfolding code_lines units_line mean_line last_code
report_of times total images = code_lines (suc last_code) 0 times (units_line total (mean_line images total))

-- `cut`
unfoldable pub cut_line : List ℕ
cut_line = 99 ∷ 117 ∷ 116 ∷ 10 ∷ []

unfoldable pub report_from : Option (List Line) → List ℕ
unfolding report_of times_given units_of cut_line
report_from none = cut_line
report_from (some l) = report_of (λ c. times_given c l) (units_of l) (length l)

unfoldable pub report : List ℕ → List ℕ
unfolding report_from answers_in
report file = report_from (answers_in file)
