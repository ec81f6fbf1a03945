-- All scans of a recording, one line after another, and the job.
use Rattle.std.specs.Prelude.{ℕ, suc, ◌≤◌, ◌≡◌, List, [], length, drop, replicate, Result, Ok, Err}
use Rattle.std.proofs.lemmas.List.Edits.{sets}
use Rattle.model.specs.Trees.{Tree}
use Rattle.model.specs.Reading.{got}
use Rattle.model.specs.Jobs.{Answer}
use Rattle.requests.specs.Recording.{Change, read_scans}
use Rattle.requests.specs.ScanJob.{driven_places, lines_from, joined, ScanEnding, printed, scan_code, scan_of, scan_room, scan_answer, output_after_scans}
use Rattle.numbers.specs.Limits.{most_image}
use Rattle.bits.specs.Meeting as meeting
use Rattle.ladder.specs.Places.{Ready}
use Rattle.scan_lines.specs.Lines.{Points}
use Rattle.scan_runner.specs.declared.preparation.Prepared.{Prepared}
use Rattle.scan_runner.specs.declared.refusal.ScanRefusal.{ScanRefusal}
use Rattle.scan_runner.specs.Refusing.{scan_refusal_of}
use Rattle.scan_runner.specs.Stepping.{CodeOf}
use Rattle.scan_runner.specs.Preparing.{Stands}

-- n scans are left of a recording at the place `at`, behind as many as are done, and `text` is their lines
pub record Due (recording : List ℕ) (at n done : ℕ) (code places points bits text : List ℕ) : Type 0 where
  pub tree : Tree
  pub code_of : CodeOf tree code
  pub listed : places ≡ driven_places tree
  pub points-listed : Points places
  pub ready : Ready code points bits
  pub short : length recording ≤ most_image
  pub within : at ≤ length recording
  pub changes : List (List Change)
  pub reads : read_scans n (drop at recording) ≡ got changes []
  pub text-is : text ≡ joined (lines_from tree (suc done) (record { points = points; bits = bits }) changes)

pub record Runnable (recording : List ℕ) (first scans : ℕ) (code places points bits out : List ℕ) : Type 0 where
  pub text : List ℕ
  pub due : Due recording first scans 0 code places points bits text
  pub room : length text ≤ length out

pub record Ran (recording : List ℕ) (first scans : ℕ) (code places points bits out out' : List ℕ) : Type 0 where
  pub is : (text : List ℕ) → Due recording first scans 0 code places points bits text → out' ≡ sets out 0 text

-- ---- what was prepared, and points at 0

pub record Standing (recording marks code points bits : List ℕ) (p : Prepared) : Type 0 where
  pub text : List ℕ
  pub stands : Stands recording marks code bits p text
  pub marks-long : meeting.points ≤ length marks
  pub points-are : points ≡ replicate meeting.points 0

abbrev pub answer_for : Result ℕ ScanRefusal → Answer
answer_for (Ok n) = record { code = 0; units = 0; name = 0; len = n; first = 0; second = 0 }
answer_for (Err f) = record { code = scan_code (scan_refusal_of f); units = 0; name = 0; len = 0; first = 0; second = 0 }

-- an ending, as the code answers it and leaves the bytes lent
pub record Ends (e : ScanEnding) (out out' : List ℕ) (r : Result ℕ ScanRefusal) : Type 0 where
  pub answer : answer_for r ≡ scan_answer e
  pub left : out' ≡ output_after_scans e out

pub record RunsPrepared (recording marks code bits : List ℕ) (p : Prepared) (out out' : List ℕ) (r : Result ℕ ScanRefusal) : Type 0 where
  pub ends : (text : List ℕ) → Stands recording marks code bits p text → Ends (scan_room (length out) (printed text)) out out' r

abbrev pub Runs : List ℕ → List ℕ → List ℕ → List ℕ → Result ℕ ScanRefusal → Type 0
Runs image recording out out' r = Ends (scan_room (length out) (scan_of image recording)) out out' r
