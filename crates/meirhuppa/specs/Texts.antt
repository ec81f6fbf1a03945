-- What `meirhuppa_read` and `meirhuppa_print` promise of their answer, and of the output after it: they are the request's.
use Rattle.std.specs.Prelude.{◌≡◌, List, ℕ, Result, Ok, Err}
use Rattle.model.specs.Jobs as m
use Rattle.requests.specs.FromText.{text_code}
use Rattle.requests.specs.TextJobs.{TextResult}
use Rattle.text_endings.specs.declared.TextRefusal.{TextRefusal}
use Rattle.text_endings.specs.Ending.{text_refusal_of}
use Rattle.meirhuppa.specs.declared.answers.Answer.{Answer}
use Rattle.meirhuppa.specs.Endings.{answer_is}

abbrev pub TextAnswered : TextResult → Answer → List ℕ → Type 0
TextAnswered job a output = record { answer = answer_is a; output = output } ≡ job

-- the numbers of what was written, or refused
abbrev pub written_answer : Result ℕ TextRefusal → m.Answer
written_answer (Ok n) = record { code = 0; units = 0; name = 0; len = n; first = 0; second = 0 }
written_answer (Err f) = record { code = text_code (text_refusal_of f); units = 0; name = 0; len = 0; first = 0; second = 0 }

pub record WrittenAnswer (w : Result ℕ TextRefusal) (a : Answer) : Type 0 where
  pub is : answer_is a ≡ written_answer w
