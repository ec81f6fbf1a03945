-- What the job's answer says of an image's line.
use mathlib.Core.Path.{◌≡◌, refl, sym, ap, ◌∙◌, subst}
use Prim.Native.Nat.{ℕ, ◌≤◌, ◌<◌}
use native.Mathlib.Nat.{zero-add}
use native.Mathlib.Omega.{arith}
use mathlib.Core.List.{List}
use lib.ListN.{length, replicate, length-replicate}
use borrow.Author.Tests.{le-leb}
use Rattle.model.specs.Limits.{most_budget, words_per_unit, program_budget, most_image}
use Rattle.model.specs.Jobs.{Ending, refused, named, written, answer_of, Result, budget_fits, lent, expand_ending, expand_job, Line, line_of}
use Rattle.addresses.proofs.Endings.{expand_job-is}
use Rattle.proof_bench.proofs.Answers.{expand_units_are_within_the_budget}
use Rattle.requests.specs.Report.{single, last_code}
use Rattle.requests.proofs.Report.{single-listed}
use Rattle.reports.specs.Totals.{codes}
use Rattle.term_report.specs.Singles.{Lent}

abbrev line_from : Result → Line
line_from z = record { code = z.answer.code; units = z.answer.units }

-- the table that the program lends is enough for its budget
lent_line : (table out : List ℕ) (e : Ending) → 16000 ≤ length table → line_from (lent 400 table out e) ≡ line_of 0 e
unfolding lent budget_fits most_budget words_per_unit answer_of line_of
lent_line table out e h = rw (le-leb 16000 (length table) h) (by e)
  where
    by : (e : Ending) → record { code = (answer_of e).code; units = (answer_of e).units } ≡ line_of 0 e
    by (refused r p u) = ap (λ (n : ℕ). record { code = (answer_of (refused r p u)).code; units = n }) (sym (zero-add u))
    by (named n u) = ap (λ (n : ℕ). record { code = 0; units = n }) (sym (zero-add u))
    by (written b u) = ap (λ (n : ℕ). record { code = 0; units = n }) (sym (zero-add u))

module _ (image table out : List ℕ) (h : Lent table out) {z : Result} (e : z ≡ expand_job image 0 400 table out) where
  pub single_line : line_from z ≡ single image
  unfolding single program_budget most_image
  single_line =
      ap line_from (e ∙ expand_job-is image 0 400 table out)
      ∙ lent_line table out (expand_ending image 0 400 (length out)) h.words
      ∙ ap (λ (n : ℕ). line_of 0 (expand_ending image 0 400 n)) h.bytes

  pub single-code : z.answer.code < codes
  unfolding last_code
  single-code = subst (λ (l : Line). l.code < codes) (sym single_line) (let k = single-listed image in omega arith)

-- no answer takes more than the budget, whatever is lent
pub single-units : (image : List ℕ) → (single image).units ≤ 400
single-units image =
    let table = replicate {A = ℕ} 16000 0 in
    let out = replicate {A = ℕ} 65536 0 in
    let h : Lent table out = record { words = rw (length-replicate {A = ℕ} 16000 0) (omega arith); bytes = length-replicate {A = ℕ} 65536 0 } in
    subst (λ (l : Line). l.units ≤ 400) (single_line image table out h refl) (expand_units_are_within_the_budget image 0 400 table out)
