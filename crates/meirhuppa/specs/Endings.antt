-- The code's endings and answers as document 01's.
use Rattle.std.specs.Prelude.{◌≡◌, List, ℕ}
use Rattle.model.specs.Refusals.{code_of}
use Rattle.model.specs.Jobs as m
use Rattle.refusals.specs.Refusing.{refusal_of}
use Rattle.finish.specs.declared.Ending.{Ending}
use Rattle.finish.specs.declared.Ending.TheVariants.{Refused, Stopped, Named, Written}
use Rattle.meirhuppa.specs.declared.answers.Answer.{Answer}

abbrev pub answer_is : Answer → m.Answer
answer_is a = record { code = a.code; units = a.units; name = a.name; len = a.length; first = a.first; second = a.second }

-- the numbers of each ending
abbrev pub answer_for : Ending → m.Answer
answer_for (Refused f u) = record { code = code_of (refusal_of f); units = u; name = 0; len = 0; first = 0; second = 0 }
answer_for (Stopped f p u) = record { code = code_of (refusal_of f); units = u; name = 0; len = 0; first = p.first; second = p.second }
answer_for (Named n u) = record { code = 0; units = u; name = n.0; len = 0; first = 0; second = 0 }
answer_for (Written n u) = record { code = 0; units = u; name = 0; len = n; first = 0; second = 0 }

-- What each public function promises of its answer, and of output and table after it: they are the job's, and nothing else is (`answered_once`).
-- Resolve has no output.
abbrev pub Answered : m.Result → Answer → List ℕ → List ℕ → Type 0
Answered job a output table = record { answer = answer_is a; output = output; table = table } ≡ job
