-- Document 02, T-11: the job as its caller sees it. It takes neither phase nor budget nor table.
use Rattle.std.specs.Prelude.{ℕ, List, length}
use Rattle.model.specs.Jobs.{Ending, Answer, answer_of, output_after}
use Rattle.shrinking.specs.Shrunk.{shrink_ending}

-- the answer, and the output after it
pub record ShrinkResult : Type 0 where
  pub answer : Answer
  pub output : List ℕ

unfoldable pub shrink_result : Ending → List ℕ → ShrinkResult
unfolding answer_of output_after
shrink_result e output = record { answer = answer_of e; output = output_after e output }

unfoldable pub shrink_job : List ℕ → List ℕ → ShrinkResult
unfolding shrink_result shrink_ending
shrink_job image output = shrink_result (shrink_ending image (length output)) output
