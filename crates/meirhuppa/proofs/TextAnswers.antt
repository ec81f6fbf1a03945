-- From what was written to the whole result of the jobs of text: answer and output; and that there is one only.
use Rattle.std.specs.Prelude.{Result, Ok, Err}
use Prim.Native.Nat.{ℕ}
use mathlib.Core.Path.{◌≡◌, sym, ap, ◌∙◌}
use mathlib.Core.List.{List}
use Rattle.requests.specs.FromText.{text_code}
use Rattle.requests.specs.TextJobs.{TextEnding, TextResult, text_answer, text_result, read_job, print_job}
use Rattle.text_endings.specs.declared.TextRefusal.{TextRefusal}
use Rattle.text_endings.specs.Ending.{text_refusal_of, Ends}
use Rattle.text_reader.specs.Job.{Reads}
use Rattle.text_printer.specs.Job.{Prints}
use Rattle.meirhuppa.specs.declared.answers.Answer as declared
use Rattle.meirhuppa.specs.Endings.{answer_is}
use Rattle.meirhuppa.specs.Texts.{TextAnswered, written_answer, WrittenAnswer}
use Rattle.meirhuppa.proofs.OneAnswer.{same_answer}

-- ---- the numbers

pub made-answer : {w : Result ℕ TextRefusal} {a : declared.Answer} {n : ℕ} → w ≡ Ok n
    → answer_is a ≡ record { code = 0; units = 0; name = 0; len = n; first = 0; second = 0 } → WrittenAnswer w a
made-answer e q = record { is = q ∙ sym (ap written_answer e) }

pub text_refused_answer : {w : Result ℕ TextRefusal} {a : declared.Answer} {f : TextRefusal} {k : ℕ} → w ≡ Err f → k ≡ text_code (text_refusal_of f)
    → answer_is a ≡ record { code = k; units = 0; name = 0; len = 0; first = 0; second = 0 } → WrittenAnswer w a
text_refused_answer e h q = record {
  is = q ∙ ap (λ (k : ℕ). record { code = k; units = 0; name = 0; len = 0; first = 0; second = 0 }) h ∙ sym (ap written_answer e);
}

pub ruleset written_laws = (made-answer, text_refused_answer)

-- ---- the whole

module _ {e : TextEnding} {out out' : List ℕ} where
  answer-is : (w : Result ℕ TextRefusal) → Ends e out out' w → written_answer w ≡ text_answer e
  unfolding text_answer
  answer-is (Ok n) h =
      ap (λ (k : ℕ). record { code = 0; units = 0; name = 0; len = k; first = 0; second = 0 }) (sym h.answer.long) ∙ sym (ap text_answer h.answer.is)
  answer-is (Err f) h = sym (ap text_answer h.answer)

  text-whole : {w : Result ℕ TextRefusal} {a : declared.Answer} → Ends e out out' w → WrittenAnswer w a → record { answer = answer_is a; output = out' } ≡ text_result e out
  unfolding text_result
  text-whole {w} h q = λ i. record { answer = (q.is ∙ answer-is w h) i; output = h.left i }

module _ (bytes out : List ℕ) {out' : List ℕ} {w : Result ℕ TextRefusal} {a : declared.Answer} where
  pub read_whole : Reads bytes out out' w → WrittenAnswer w a → TextAnswered (read_job bytes out) a out'
  unfolding read_job
  read_whole h q = text-whole h q

  pub print_whole : Prints bytes out out' w → WrittenAnswer w a → TextAnswered (print_job bytes out) a out'
  unfolding print_job
  print_whole h q = text-whole h q

pub ruleset text_laws = (read_whole, print_whole)

pub text_once : (job : TextResult) (a b : declared.Answer) (o p : List ℕ) → TextAnswered job a o → TextAnswered job b p → (a ≡ b) × (o ≡ p)
text_once job a b o p m n = (
  same_answer a b (ap (λ (r : TextResult). r.answer) (m ∙ sym n)),
  ap (λ (r : TextResult). r.output) (m ∙ sym n),
)
