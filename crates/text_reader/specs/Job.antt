-- The job of reading text.
use Rattle.std.specs.Prelude.{ℕ, List, length, Result}
use Rattle.requests.specs.TextJobs.{fitted, read_ending}
use Rattle.text_endings.specs.declared.TextRefusal.{TextRefusal}
use Rattle.text_endings.specs.Ending.{Ends}
use Rattle.text_reader.specs.Writing.{image_from}

pub record Writes (text spans : List ℕ) (n : ℕ) (out out' : List ℕ) (r : Result ℕ TextRefusal) : Type 0 where
  pub ends : Ends (fitted (length out) (image_from text spans n)) out out' r

abbrev pub Reads : List ℕ → List ℕ → List ℕ → Result ℕ TextRefusal → Type 0
Reads text out out' r = Ends (read_ending text (length out)) out out' r
