-- From the lines printed to the whole result of the scan runner: answer and output; and that there is one only.
use Rattle.std.specs.Prelude.{Result, Ok, Err}
use Prim.Native.Nat.{ℕ}
use mathlib.Core.Path.{◌≡◌, sym, ap, ◌∙◌}
use mathlib.Core.List.{List}
use Rattle.model.specs.Jobs.{Answer}
use Rattle.requests.specs.ScanJob.{ScanResult, scan_code, scan_job}
use Rattle.scan_runner.specs.declared.refusal.ScanRefusal.{ScanRefusal}
use Rattle.scan_runner.specs.Refusing.{scan_refusal_of}
use Rattle.scan_runner.specs.Running.{answer_for, Runs}
use Rattle.meirhuppa.specs.declared.answers.Answer as declared
use Rattle.meirhuppa.specs.Endings.{answer_is}
use Rattle.meirhuppa.specs.Scans.{ScanAnswered}
use Rattle.meirhuppa.proofs.OneAnswer.{same_answer}

module _ (image recording out : List ℕ) {out' : List ℕ} {r : Result ℕ ScanRefusal} (h : Runs image recording out out' r) where
  scan-whole : {a : Answer} → a ≡ answer_for r → record { answer = a; output = out' } ≡ scan_job image recording out
  unfolding scan_job
  scan-whole e = λ i. record { answer = (e ∙ h.answer) i; output = h.left i }

  pub scan-printed : {a : declared.Answer} {n : ℕ} → r ≡ Ok n → answer_is a ≡ record { code = 0; units = 0; name = 0; len = n; first = 0; second = 0 } → ScanAnswered (scan_job image recording out) a out'
  scan-printed e q = scan-whole (q ∙ sym (ap answer_for e))

  pub scan-refused : {a : declared.Answer} {f : ScanRefusal} {k : ℕ} → r ≡ Err f → k ≡ scan_code (scan_refusal_of f) → answer_is a ≡ record { code = k; units = 0; name = 0; len = 0; first = 0; second = 0 } → ScanAnswered (scan_job image recording out) a out'
  scan-refused e g q = scan-whole (q ∙ ap (λ (k : ℕ). record { code = k; units = 0; name = 0; len = 0; first = 0; second = 0 }) g ∙ sym (ap answer_for e))

pub ruleset scan_laws = (scan-printed, scan-refused)

pub scan_once : (job : ScanResult) (a b : declared.Answer) (o p : List ℕ) → ScanAnswered job a o → ScanAnswered job b p → (a ≡ b) × (o ≡ p)
scan_once job a b o p m n = (
  same_answer a b (ap (λ (r : ScanResult). r.answer) (m ∙ sym n)),
  ap (λ (r : ScanResult). r.output) (m ∙ sym n),
)
