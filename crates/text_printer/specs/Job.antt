-- The job of printing an image.
use Rattle.std.specs.Prelude.{ℕ, ◌≤◌, ◌≡◌, List, length, Result}
use Rattle.requests.specs.TextJobs.{fitted, print_ending}
use Rattle.image.specs.declared.Judgement.{Judgement}
use Rattle.image.specs.Judging.{syntax_kind, Good}
use Rattle.text_endings.specs.declared.TextRefusal.{TextRefusal}
use Rattle.text_endings.specs.Ending.{Ends}
use Rattle.text_printer.specs.Walking.{most_open}
use Rattle.text_printer.specs.Printing.{print_of}

-- judged without fault, with some store
pub record GoodSyntax (image : List ℕ) (j : Judgement) : Type 0 where
  pub store : List ℕ
  pub good : Good syntax_kind image store j

-- with room for places of words and counts
pub record GoodRoom (image : List ℕ) (j : Judgement) (starts left : List ℕ) : Type 0 where
  pub good : GoodSyntax image j
  pub words-room : 1020 ≤ length starts
  pub counts-room : length left ≡ most_open

pub record Writes (image out out' : List ℕ) (r : Result ℕ TextRefusal) : Type 0 where
  pub ends : Ends (fitted (length out) (print_of image)) out out' r

abbrev pub Prints : List ℕ → List ℕ → List ℕ → Result ℕ TextRefusal → Type 0
Prints image out out' r = Ends (print_ending image (length out)) out out' r
