-- From the names listed to the whole result of the panel check: answer and words; and that there is one only.
use Rattle.std.specs.Prelude.{Result, Ok, Err}
use Prim.Native.Nat.{ℕ, ◌*◌, ◌<◌}
use mathlib.Core.Path.{◌≡◌, sym, ap, ◌∙◌}
use mathlib.Core.List.{List}
use native.Mathlib.Omega.{arith}
use Rattle.model.specs.Jobs.{Answer}
use Rattle.requests.specs.Panel.{PanelResult, panel_code, panel_job}
use Rattle.panel_check.specs.declared.refusal.PanelRefusal.{PanelRefusal}
use Rattle.panel_check.specs.Refusing.{panel_refusal_of}
use Rattle.panel_check.specs.Checking.{answer_for, Lists}
use Rattle.meirhuppa.specs.declared.answers.Answer as declared
use Rattle.meirhuppa.specs.Endings.{answer_is}
use Rattle.meirhuppa.specs.Panels.{PanelAnswered}
use Rattle.meirhuppa.proofs.OneAnswer.{same_answer}

module _ (image bits : List ℕ) {bits' : List ℕ} {r : Result ℕ PanelRefusal} (h : Lists image bits bits' r) where
  panel-whole : {a : Answer} → a ≡ answer_for r → record { answer = a; bits = bits' } ≡ panel_job image bits
  unfolding panel_job
  panel-whole e = λ i. record { answer = (e ∙ h.answer) i; bits = h.left i }

  pub panel-listed : {a : declared.Answer} {n : ℕ} → r ≡ Ok n → answer_is a ≡ record { code = 0; units = 0; name = 0; len = 4 * n; first = 0; second = 0 } → PanelAnswered (panel_job image bits) a bits'
  panel-listed e q = panel-whole (q ∙ sym (ap answer_for e))

  pub panel-refused : {a : declared.Answer} {f : PanelRefusal} {k : ℕ} → r ≡ Err f → k ≡ panel_code (panel_refusal_of f) → answer_is a ≡ record { code = k; units = 0; name = 0; len = 0; first = 0; second = 0 } → PanelAnswered (panel_job image bits) a bits'
  panel-refused e g q = panel-whole (q ∙ ap (λ (k : ℕ). record { code = k; units = 0; name = 0; len = 0; first = 0; second = 0 }) g ∙ sym (ap answer_for e))

  pub panel-short : {n : ℕ} → r ≡ Ok n → 4 * n < 4294967296
  panel-short {n} e = let l = h.few n e in omega arith

pub ruleset panel_laws = (panel-listed, panel-refused, panel-short)

pub panel_once : (job : PanelResult) (a b : declared.Answer) (o p : List ℕ) → PanelAnswered job a o → PanelAnswered job b p → (a ≡ b) × (o ≡ p)
panel_once job a b o p m n = (
  same_answer a b (ap (λ (r : PanelResult). r.answer) (m ∙ sym n)),
  ap (λ (r : PanelResult). r.bits) (m ∙ sym n),
)
