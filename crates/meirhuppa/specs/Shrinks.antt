-- What `meirhuppa_shrink` promises of its answer, and of the output after it: they are the request's.
use Rattle.std.specs.Prelude.{◌≡◌, List, ℕ}
use Rattle.shrinking.specs.ShrinkJob.{ShrinkResult}
use Rattle.meirhuppa.specs.declared.answers.Answer.{Answer}
use Rattle.meirhuppa.specs.Endings.{answer_is}

abbrev pub ShrinkAnswered : ShrinkResult → Answer → List ℕ → Type 0
ShrinkAnswered job a output = record { answer = answer_is a; output = output } ≡ job
