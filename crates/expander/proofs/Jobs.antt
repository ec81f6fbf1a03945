-- What the answers of the two jobs say of the line.
use mathlib.Core.Path.{◌≡◌, refl, sym, ap, ◌∙◌, subst}
use Prim.Native.Nat.{ℕ, ◌+◌, ◌≤◌}
use native.Mathlib.Nat.{zero-add}
use native.Mathlib.Omega.{arith}
use mathlib.Core.List.{List}
use mir.Syntax.{w32}
use mir.Val.{Fits}
use lib.ListN.{length, take, drop}
use lib.Seq.{length-take-le}
use Rattle.model.specs.Limits.{most_budget, words_per_unit, program_budget, most_image}
use Rattle.model.specs.Reading.{read_syntax, read_image}
use Rattle.model.specs.Jobs.{Ending, refused, named, written, Answer, answer_of, output_after, Result, budget_fits, lent, with_image, expand_ending, parse_ending, expand_job, parse_job, Line, line_of, then_parsed, program}
use borrow.Author.Tests.{le-leb}
use Rattle.addresses.proofs.Endings.{after-ending, expand_work, expand_ending-is, expand_job-is, parse_job-is, lent-within, lent-ended, fitted_case, worked_case, image_case, phase_case, Ended, take_whole, Wrote, nothing_wrote}
use Rattle.proof_bench.proofs.Answers.{expand_units_are_within_the_budget, parse_units_are_within_the_budget}

-- the table that the program lends is enough for its budget
lent_is : (table output : List ℕ) (e : Ending) → 16000 ≤ length table → lent 400 table output e ≡ after-ending 400 table output e
unfolding lent budget_fits most_budget words_per_unit
lent_is table output e h = rw (le-leb 16000 (length table) h)

answer_line_lem : (before : ℕ) {a : Answer} (e : Ending) → a ≡ answer_of e → record { code = a.code; units = before + a.units } ≡ line_of before e
unfolding answer_of line_of
answer_line_lem before e q = ap (λ (z : Answer). record { code = z.code; units = before + z.units }) q ∙ by e
  where
    by : (e : Ending) → record { code = (answer_of e).code; units = before + (answer_of e).units } ≡ line_of before e
    by (refused r p u) = refl
    by (named n u) = refl
    by (written b u) = refl

-- ---- expanding

-- expanding never ends with a name
abbrev Unnamed : Ending → Type 0
Unnamed = Wrote (λ b. Unit {0})

expand_unnamed : (image : List ℕ) (ph budget room : ℕ) → Unnamed (expand_ending image ph budget room)
expand_unnamed image ph budget room =
    let none = nothing_wrote (λ b. Unit {0}) in
    subst Unnamed (sym (expand_ending-is image ph budget room))
    (phase_case Unnamed none ph (with_image (read_image read_syntax image) (expand_work ph budget room))
    (image_case Unnamed none (read_image read_syntax image) (expand_work ph budget room) (λ i rest e.
    worked_case Unnamed none budget _ _ (λ r s q. fitted_case Unnamed none room _ _ (λ h. tt)))))

refused_line : {a : Answer} (e : Ending) → Unnamed e → a ≡ answer_of e → (a.code ≡ 0 → ⊥) → record { code = a.code; units = a.units } ≡ then_parsed e
unfolding answer_of line_of then_parsed
refused_line {a} (refused r p u) w q n =
    ap (λ (k : ℕ). record { code = a.code; units = k }) (sym (zero-add a.units)) ∙ answer_line_lem 0 (refused r p u) q
refused_line (named n u) w q k = absurd w
refused_line (written b u) w q k = absurd (k (ap (λ (z : Answer). z.code) q))

written_line : {a : Answer} {out' : List ℕ} {l : Line} (out : List ℕ) (e : Ending) → Unnamed e → Ended e → a ≡ answer_of e → out' ≡ output_after e out
    → l ≡ line_of a.units (parse_ending (take a.len out') program_budget most_image) → l ≡ then_parsed e
unfolding answer_of output_after then_parsed
written_line out (refused r v u) w d q o p = absurd d
written_line out (named n u) w d q o p = absurd w
written_line {a} {out'} out (written b u) w d q o p =
    let b_is : take a.len out' ≡ b = (λ i. take (q i).len (o i)) ∙ take_whole b (drop (length b) out) in
    p ∙ (λ i. line_of (q i).units (parse_ending (b_is i) program_budget most_image))

-- of what the job promises
module _ (image table out : List ℕ) {out' table' : List ℕ} {code units name len first second : ℕ}
    (e : record { answer = record { code = code; units = units; name = name; len = len; first = first; second = second }; output = out'; table = table' } ≡ expand_job image 0 400 table out) where
  ending : Ending
  ending = expand_ending image 0 400 (length out)

  is : record { answer = record { code = code; units = units; name = name; len = len; first = first; second = second }; output = out'; table = table' } ≡ lent 400 table out ending
  unfolding ending
  is = e ∙ expand_job-is image 0 400 table out

  unnamed : Unnamed ending
  unfolding ending
  unnamed = expand_unnamed image 0 400 (length out)

  program-is : length out ≡ 65536 → program image ≡ then_parsed ending
  unfolding ending program program_budget most_image
  program-is l = ap (λ (n : ℕ). then_parsed (expand_ending image 0 400 n)) (sym l)

  pub expanded_units : units ≤ 400
  expanded_units = subst (λ (z : Result). z.answer.units ≤ 400) (sym e) (expand_units_are_within_the_budget image 0 400 table out)

  pub expanded_length : len ≤ length out'
  expanded_length = subst (λ (z : Result). z.answer.len ≤ length z.output) (sym is) (lent-within 400 table out ending)

  pub part-long : len ≡ length (take len out')
  part-long = sym (length-take-le len out' expanded_length)

  pub expand-refused : 16000 ≤ length table → length out ≡ 65536 → (code ≡ 0 → ⊥) → record { code = code; units = units } ≡ program image
  expand-refused h l n =
      refused_line ending unnamed (ap (λ (z : Result). z.answer) (is ∙ lent_is table out ending h)) n ∙ sym (program-is l)

  pub expand-written : {l : Line} → length out ≡ 65536 → code ≡ 0 → l ≡ line_of units (parse_ending (take len out') program_budget most_image) → l ≡ program image
  expand-written n k p =
      let d = lent-ended 400 table out ending (ap (λ (z : Result). z.answer.code) (sym is) ∙ k) in
      let q = is ∙ d.1 in
      written_line out ending unnamed d.0 (ap (λ (z : Result). z.answer) q) (ap (λ (z : Result). z.output) q) p ∙ sym (program-is n)

-- ---- parsing

module _ (image table out : List ℕ) {out' table' : List ℕ} {code units name len first second : ℕ}
    (e : record { answer = record { code = code; units = units; name = name; len = len; first = first; second = second }; output = out'; table = table' } ≡ parse_job image 400 table out) where
  pub both-units : {before : ℕ} → before ≤ 400 → Fits w32 (before + units)
  both-units h =
      let u = subst (λ (z : Result). z.answer.units ≤ 400) (sym e) (parse_units_are_within_the_budget image 400 table out) in
      omega arith

  pub parse_line : (before : ℕ) → 16000 ≤ length table → length out ≡ 65536
      → record { code = code; units = before + units } ≡ line_of before (parse_ending image program_budget most_image)
  unfolding program_budget most_image
  parse_line before h l =
      answer_line_lem before _ (ap (λ (z : Result). z.answer) (e ∙ parse_job-is image 400 table out ∙ lent_is table out _ h))
      ∙ ap (λ (n : ℕ). line_of before (parse_ending image 400 n)) l

pub ruleset line_laws = (expanded_units, expanded_length, part-long, expand-refused, expand-written, both-units, parse_line)
