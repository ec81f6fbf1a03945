-- From what was made, told or replaced to the whole result: answer, summary and output; and that there is one only.
use Rattle.std.specs.Prelude.{Result, Ok, Err}
use Prim.Native.Nat.{ℕ, ◌+◌, ◌*◌, ◌≤◌, ◌<◌}
use mathlib.Core.Path.{◌≡◌, sym, ap, ◌∙◌}
use mathlib.Core.List.{List}
use native.Mathlib.Omega.{arith}
use Rattle.requests.specs.Uses.{SummaryResult, UsesAnswer, uses_code, refused_answer, uses_answer, summary_job, uses_job}
use Rattle.requests.specs.Replacing.{ReplaceResult, replace_job}
use Rattle.places.specs.declared.counting.Entry.{Entry}
use Rattle.summaries.specs.declared.refusal.UsesRefusal.{UsesRefusal}
use Rattle.summaries.specs.Refusing.{uses_refusal_of}
use Rattle.summaries.specs.Making as made
use Rattle.summaries.specs.Making.{Makes, told_by, Asks}
use Rattle.replacing.specs.Replacing as put
use Rattle.replacing.specs.Replacing.{Replaces}
use Rattle.meirhuppa.specs.declared.answers.Answer.{Answer}
use Rattle.meirhuppa.specs.declared.uses_jobs.Uses.{Uses}
use Rattle.meirhuppa.specs.Endings.{answer_is}
use Rattle.meirhuppa.specs.UsesJobs.{RefusedAnswer, SummaryAnswered, UsesAnswered, ReplaceAnswered}
use Rattle.meirhuppa.proofs.OneAnswer.{same_answer}

pub refused-code : {f : UsesRefusal} {a : Answer} {k : ℕ} → k ≡ uses_code (uses_refusal_of f) → answer_is a ≡ record { code = k; units = 0; name = 0; len = 0; first = 0; second = 0 } → RefusedAnswer f a
unfolding refused_answer
refused-code h q = record { is = q ∙ ap (λ (k : ℕ). record { code = k; units = 0; name = 0; len = 0; first = 0; second = 0 }) h }

pub ruleset refused_laws = (refused-code)

-- ---- the summary

module _ (image words : List ℕ) {words' : List ℕ} {r : Result ℕ UsesRefusal} (h : Makes image words words' r) where
  summary-whole : {a : Answer} → answer_is a ≡ made.answer_for r → SummaryAnswered (summary_job image words) a words'
  unfolding summary_job
  summary-whole e = λ i. record { answer = (e ∙ h.answer) i; summary = h.left i }

  pub summary-made : {a : Answer} {n : ℕ} → r ≡ Ok n → answer_is a ≡ record { code = 0; units = 0; name = 0; len = 4 * (2 + 2 * n); first = 0; second = 0 } → SummaryAnswered (summary_job image words) a words'
  summary-made e q = summary-whole (q ∙ sym (ap made.answer_for e))

  pub summary-refused : {a : Answer} {f : UsesRefusal} → r ≡ Err f → RefusedAnswer f a → SummaryAnswered (summary_job image words) a words'
  summary-refused e q = summary-whole (q.is ∙ sym (ap made.answer_for e))

  pub summary-few : {n : ℕ} → r ≡ Ok n → n ≤ 1024
  summary-few {n} e = h.few n e

  pub summary-short : {n : ℕ} → r ≡ Ok n → 2 * n < 4294967296
  summary-short {n} e = let l = h.few n e in omega arith

  pub summary_sum : {n : ℕ} → r ≡ Ok n → 2 + 2 * n < 4294967296
  summary_sum {n} e = let l = h.few n e in omega arith

  pub summary-bytes : {n : ℕ} → r ≡ Ok n → 4 * (2 + 2 * n) < 4294967296
  summary-bytes {n} e = let l = h.few n e in omega arith

pub ruleset summary_laws = (summary-made, summary-refused, summary-short, summary_sum, summary-bytes)

-- ---- a question

module _ (image words : List ℕ) (n : ℕ) {r : Result Entry UsesRefusal} (h : Asks image words n r) where
  pub uses-told : {x : Entry} → r ≡ Ok x → record { code = 0; count = x.count; first = x.first } ≡ uses_job image words n
  unfolding uses_job uses_answer
  uses-told e = ap uses_answer (ap told_by (sym e) ∙ h)

  pub uses-refused : {f : UsesRefusal} {k : ℕ} → r ≡ Err f → k ≡ uses_code (uses_refusal_of f) → record { code = k; count = 0; first = 0 } ≡ uses_job image words n
  unfolding uses_job uses_answer
  uses-refused e q = ap (λ (k : ℕ). record { code = k; count = 0; first = 0 }) q ∙ ap uses_answer (ap told_by (sym e) ∙ h)

pub ruleset uses_laws = (uses-told, uses-refused)

-- ---- a replacement

module _ (image part words out : List ℕ) (place : ℕ) {words' out' : List ℕ} {r : Result ℕ UsesRefusal} (h : Replaces image place part words words' out out' r) where
  replace_whole : {a : Answer} → answer_is a ≡ put.answer_for r → ReplaceAnswered (replace_job image place part words out) a words' out'
  unfolding replace_job
  replace_whole e = λ i. record { answer = (e ∙ h.answer) i; summary = h.words_left i; output = h.out-left i }

  pub replace_made : {a : Answer} {n : ℕ} → r ≡ Ok n → answer_is a ≡ record { code = 0; units = 0; name = 0; len = n; first = 0; second = 0 } → ReplaceAnswered (replace_job image place part words out) a words' out'
  replace_made e q = replace_whole (q ∙ sym (ap put.answer_for e))

  pub replace_refused : {a : Answer} {f : UsesRefusal} → r ≡ Err f → RefusedAnswer f a → ReplaceAnswered (replace_job image place part words out) a words' out'
  replace_refused e q = replace_whole (q.is ∙ sym (ap put.answer_for e))

pub ruleset replace_laws = (replace_made, replace_refused)

-- ---- no other answer would do

pub summary_once : (job : SummaryResult) (a b : Answer) (o p : List ℕ) → SummaryAnswered job a o → SummaryAnswered job b p → (a ≡ b) × (o ≡ p)
summary_once job a b o p m n = (same_answer a b (ap (λ (r : SummaryResult). r.answer) (m ∙ sym n)), ap (λ (r : SummaryResult). r.summary) (m ∙ sym n))

pub uses_once : (job : UsesAnswer) (a b : Uses) → UsesAnswered job a → UsesAnswered job b → a ≡ b
uses_once job a b m n =
    let e = m ∙ sym n in
    λ i. record { code = ap (λ (r : UsesAnswer). r.code) e i; count = ap (λ (r : UsesAnswer). r.count) e i; first = ap (λ (r : UsesAnswer). r.first) e i }

pub replace_once : (job : ReplaceResult) (a b : Answer) (w x o p : List ℕ) → ReplaceAnswered job a w o → ReplaceAnswered job b x p → (a ≡ b) × (w ≡ x) × (o ≡ p)
replace_once job a b w x o p m n = (
  same_answer a b (ap (λ (r : ReplaceResult). r.answer) (m ∙ sym n)),
  ap (λ (r : ReplaceResult). r.summary) (m ∙ sym n),
  ap (λ (r : ReplaceResult). r.output) (m ∙ sym n),
)
