-- From how the job ends to its whole result: answer and output; and that there is one only.
use Prim.Native.Nat.{ℕ}
use mathlib.Core.Path.{◌≡◌, sym, ap, ◌∙◌}
use mathlib.Core.List.{List}
use lib.ListN.{length}
use Rattle.shrinking.specs.Shrunk.{shrink_ending}
use Rattle.shrinking.specs.ShrinkJob.{ShrinkResult, shrink_result, shrink_job}
use Rattle.finish.specs.declared.Ending.{Ending}
use Rattle.finish.specs.Ends.{EndsAs}
use Rattle.meirhuppa.specs.declared.answers.Answer.{Answer}
use Rattle.meirhuppa.specs.Endings.{answer_is, answer_for}
use Rattle.meirhuppa.specs.Shrinks.{ShrinkAnswered}
use Rattle.meirhuppa.proofs.Wholes.{answer-is, ends-short}
use Rattle.meirhuppa.proofs.OneAnswer.{same_answer}

pub shrink_whole : (image out : List ℕ) {out' : List ℕ} {e : Ending} {a : Answer} → EndsAs (shrink_ending image (length out)) out out' e → answer_is a ≡ answer_for e
    → ShrinkAnswered (shrink_job image out) a out'
unfolding shrink_job shrink_result
shrink_whole image out w q = λ i. record { answer = (q ∙ answer-is _ w) i; output = w.left i }

pub ruleset shrink_laws = (shrink_whole, ends-short)

pub shrink_once : (job : ShrinkResult) (a b : Answer) (o p : List ℕ) → ShrinkAnswered job a o → ShrinkAnswered job b p → (a ≡ b) × (o ≡ p)
shrink_once job a b o p m n = (
  same_answer a b (ap (λ (r : ShrinkResult). r.answer) (m ∙ sym n)),
  ap (λ (r : ShrinkResult). r.output) (m ∙ sym n),
)
