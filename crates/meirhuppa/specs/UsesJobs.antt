-- What `meirhuppa_summary`, `meirhuppa_uses` and `meirhuppa_replace` promise of their answers, and of summary and output after them: they are the
-- request's.
use Rattle.std.specs.Prelude.{◌≡◌, List, ℕ}
use Rattle.requests.specs.Uses.{SummaryResult, UsesAnswer, refused_answer}
use Rattle.requests.specs.Replacing.{ReplaceResult}
use Rattle.summaries.specs.declared.refusal.UsesRefusal.{UsesRefusal}
use Rattle.summaries.specs.Refusing.{uses_refusal_of}
use Rattle.meirhuppa.specs.declared.answers.Answer.{Answer}
use Rattle.meirhuppa.specs.declared.uses_jobs.Uses.{Uses}
use Rattle.meirhuppa.specs.Endings.{answer_is}

pub record RefusedAnswer (f : UsesRefusal) (a : Answer) : Type 0 where
  pub is : answer_is a ≡ refused_answer (uses_refusal_of f)

abbrev pub SummaryAnswered : SummaryResult → Answer → List ℕ → Type 0
SummaryAnswered job a summary = record { answer = answer_is a; summary = summary } ≡ job

abbrev pub uses_is : Uses → UsesAnswer
uses_is a = record { code = a.code; count = a.count; first = a.first }

abbrev pub UsesAnswered : UsesAnswer → Uses → Type 0
UsesAnswered job a = uses_is a ≡ job

abbrev pub ReplaceAnswered : ReplaceResult → Answer → List ℕ → List ℕ → Type 0
ReplaceAnswered job a summary output = record { answer = answer_is a; summary = summary; output = output } ≡ job
