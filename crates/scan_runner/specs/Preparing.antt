-- What is known before the first scan.
use Rattle.std.specs.Prelude.{ℕ, ◌≤◌, ◌<◌, ◌≡◌, true, List, [], length, take, drop, Result, Ok, Err}
use Rattle.model.specs.Trees.{Tree}
use Rattle.model.specs.Reading.{got}
use Rattle.requests.specs.Panel.{is_program, driven, bits_of}
use Rattle.requests.specs.Recording.{Change, read_scans}
use Rattle.requests.specs.Scanning.{starts}
use Rattle.requests.specs.ScanJob.{text_of, stopped, printed, scan_of}
use Rattle.numbers.specs.Limits.{most_image}
use Rattle.bits.specs.Meeting.{room}
use Rattle.panel_check.specs.Checking.{RootGood}
use Rattle.ladder.specs.Code.{rungs}
use Rattle.ladder.specs.Running.{Fits}
use Rattle.wiring.specs.declared.Wired.{Wired}
use Rattle.wiring.specs.Wiring as w
use Rattle.scan_lines.specs.Lines.{Marks}
use Rattle.scan_lines.specs.Lengths.{most_scans}
use Rattle.scan_runner.specs.declared.refusal.ScanRefusal.{ScanRefusal}
use Rattle.scan_runner.specs.declared.preparation.Prepared.{Prepared}
use Rattle.scan_runner.specs.Refusing.{scan_refusal_of}
use Rattle.scan_runner.specs.Stepping.{CodeOf}

-- of a root that is a program
abbrev pub WiresRoot : List ℕ → ℕ → List ℕ → List ℕ → Wired → Type 0
WiresRoot image root code bits r = (g : RootGood image root) → is_program g.read.root ≡ true → length (bits_of g.read.root) ≤ room → w.Holds g.read.root code bits r

-- the code and the start values of a program, whose driven points the marks are
pub record Programmed (marks code bits : List ℕ) (p : Prepared) (t : Tree) : Type 0 where
  pub marked : Marks (driven t) marks
  pub words-within : p.words ≤ length code
  pub code_of : CodeOf t (take p.words code)
  pub fits : Fits p.bits 0 (rungs [] 0 t)
  pub bits-within : p.bits ≤ length bits
  pub bits_are : take p.bits bits ≡ starts t

-- the scans of a recording
pub record Recorded (recording : List ℕ) (p : Prepared) (r : List (List Change)) : Type 0 where
  pub short : length recording ≤ most_image
  pub few : p.scans < most_scans
  pub within : p.first.at ≤ length recording
  pub reads : read_scans p.scans (drop p.first.at recording) ≡ got r []

-- all lines are this text
pub record Stands (recording marks code bits : List ℕ) (p : Prepared) (text : List ℕ) : Type 0 where
  pub tree : Tree
  pub programmed : Programmed marks code bits p tree
  pub changes : List (List Change)
  pub recorded : Recorded recording p changes
  pub text-is : text ≡ text_of tree changes

pub record Made (image recording marks code bits : List ℕ) (p : Prepared) : Type 0 where
  pub text : List ℕ
  pub says : scan_of image recording ≡ printed text
  pub stands : Stands recording marks code bits p text

pub record Prepares (image recording marks code bits : List ℕ) (r : Result Prepared ScanRefusal) : Type 0 where
  pub refused : (f : ScanRefusal) → r ≡ Err f → scan_of image recording ≡ stopped (scan_refusal_of f)
  pub ready : (p : Prepared) → r ≡ Ok p → Made image recording marks code bits p
