-- What `meirhuppa_panel` promises of its answer, and of the words lent after it: they are the request's.
use Rattle.std.specs.Prelude.{◌≡◌, List, ℕ}
use Rattle.requests.specs.Panel.{PanelResult}
use Rattle.meirhuppa.specs.declared.answers.Answer.{Answer}
use Rattle.meirhuppa.specs.Endings.{answer_is}

abbrev pub PanelAnswered : PanelResult → Answer → List ℕ → Type 0
PanelAnswered job a bits = record { answer = answer_is a; bits = bits } ≡ job
