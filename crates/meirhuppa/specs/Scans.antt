-- What `meirhuppa_scan` promises of its answer, and of the output after it: they are the request's.
use Rattle.std.specs.Prelude.{◌≡◌, List, ℕ}
use Rattle.requests.specs.ScanJob.{ScanResult}
use Rattle.meirhuppa.specs.declared.answers.Answer.{Answer}
use Rattle.meirhuppa.specs.Endings.{answer_is}

abbrev pub ScanAnswered : ScanResult → Answer → List ℕ → Type 0
ScanAnswered job a output = record { answer = answer_is a; output = output } ≡ job
