-- The promise of a job leaves one answer, one output and one table only.
use mathlib.Core.Path.{◌≡◌, sym, ap, ◌∙◌}
use mathlib.Core.List.{List}
use Prim.Native.Nat.{ℕ}
use Rattle.model.specs.Jobs.{Result}
use Rattle.meirhuppa.specs.Endings.{answer_is, Answered}
use Rattle.meirhuppa.specs.declared.answers.Answer.{Answer}

pub same_answer : (a b : Answer) → answer_is a ≡ answer_is b → a ≡ b
same_answer a b e = λ i. record { code = (e i).code; units = (e i).units; name = (e i).name; length = (e i).len; first = (e i).first; second = (e i).second }

pub answered_once : (job : Result) (a b : Answer) (o p t u : List ℕ) → Answered job a o t → Answered job b p u → (a ≡ b) × (o ≡ p) × (t ≡ u)
answered_once job a b o p t u m n = (
  same_answer a b (ap (λ (r : Result). r.answer) (m ∙ sym n)),
  ap (λ (r : Result). r.output) (m ∙ sym n),
  ap (λ (r : Result). r.table) (m ∙ sym n),
)
