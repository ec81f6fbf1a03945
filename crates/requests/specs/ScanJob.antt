-- Document 02, T-02, scan runner: the line after a scan, all lines, the refusals, and the job.
use Rattle.std.specs.Prelude.{ℕ, zero, suc, Bool, false, ◌||◌, List, [], ◌∷◌, ◌++◌, leb, length, get_or, drop}
use Rattle.model.specs.Choice.{when◌then◌else◌}
use Rattle.model.specs.Limits.{most_image, last_point}
use Rattle.model.specs.Refusals.{too_long}
use Rattle.model.specs.Trees.{Tree}
use Rattle.model.specs.Reading.{Read, got, fault, Image, read_tree_image, read_image}
use Rattle.model.specs.Meanings.{is_among}
use Rattle.model.specs.Jobs.{Answer, digits}
use Rattle.requests.specs.Panel.{driven, PanelRefusal, base, panel_code, PanelEnding, refused, listed, profile}
use Rattle.requests.specs.Recording.{Change, read_recording}
use Rattle.requests.specs.Scanning.{State, at_start, scan}

-- ---- the line after a scan: its number, then for each driven point in ascending order a space and the point and its value

-- those of the c points from x on that are among d
unfoldable pub ascending : ℕ → ℕ → List ℕ → List ℕ
unfolding is_among
ascending zero x d = []
ascending (suc c) x d = when is_among x d then x ∷ ascending c (suc x) d else ascending c (suc x) d

unfoldable pub shown : List ℕ → List ℕ → List ℕ → List ℕ
unfolding digits
shown [] points after = after
shown (x ∷ l) points after = 32 ∷ 64 ∷ digits 10 x (61 ∷ digits 10 (get_or points x 0) (shown l points after))

unfoldable pub line_after : List ℕ → ℕ → State → List ℕ
unfolding digits shown
line_after places k s = digits 10 k (shown places s.points (10 ∷ []))

unfoldable pub driven_places : Tree → List ℕ
unfolding ascending driven last_point
driven_places t = ascending (suc last_point) 0 (driven t)

-- the lines of these scans, the first of them number k, from state s
unfoldable pub lines_from : Tree → ℕ → State → List (List Change) → List (List ℕ)
unfolding scan line_after driven_places
lines_from t k s [] = []
lines_from t k s (c ∷ l) = line_after (driven_places t) k (scan t c s) ∷ lines_from t (suc k) (scan t c s) l

unfoldable pub joined : List (List ℕ) → List ℕ
joined [] = []
joined (a ∷ l) = a ++ joined l

unfoldable pub text_of : Tree → List (List Change) → List ℕ
unfolding joined lines_from at_start
text_of t r = joined (lines_from t 1 (at_start t) r)

-- ---- refusals: T-01's; then 24, the recording breaks its layout or exceeds 65,536 bytes; then 25, a change names a driven point

pub data ScanRefusal : Type 0 where
  panel : PanelRefusal → ScanRefusal
  bad_recording driven_change : ScanRefusal

abbrev pub scan_code : ScanRefusal → ℕ
scan_code (panel r) = panel_code r
scan_code bad_recording = 24
scan_code driven_change = 25

pub data ScanEnding : Type 0 where
  stopped : ScanRefusal → ScanEnding
  printed : List ℕ → ScanEnding

unfoldable pub changes_driven : List ℕ → List Change → Bool
unfolding is_among
changes_driven d [] = false
changes_driven d (c ∷ l) = is_among c.place d || changes_driven d l

unfoldable pub any_driven : List ℕ → List (List Change) → Bool
unfolding changes_driven
any_driven d [] = false
any_driven d (c ∷ l) = changes_driven d c || any_driven d l

unfoldable pub recorded : Tree → Read (List (List Change)) → ScanEnding
unfolding any_driven driven text_of
recorded t (got r s) = when any_driven (driven t) r then stopped driven_change else printed (text_of t r)
recorded t (fault c) = stopped bad_recording

unfoldable pub with_recording : List ℕ → Tree → ScanEnding
unfolding recorded read_recording most_image
with_recording recording t = when leb (length recording) most_image then recorded t (read_recording recording) else stopped bad_recording

unfoldable pub then_scanned : Tree → List ℕ → PanelEnding → ScanEnding
unfolding with_recording
then_scanned t recording (refused r) = stopped (panel r)
then_scanned t recording (listed n) = with_recording recording t

unfoldable pub scan_of_image : List ℕ → Read (Image Tree) → ScanEnding
unfolding then_scanned profile
scan_of_image recording (got i s) = then_scanned i.root recording (profile i.root)
scan_of_image recording (fault r) = stopped (panel (base r))

unfoldable pub scan_of : List ℕ → List ℕ → ScanEnding
unfolding scan_of_image read_image read_tree_image
scan_of image recording = scan_of_image recording (read_image read_tree_image image)

-- and last 20; the text is no image, so 65,536 is no limit here
unfoldable pub scan_room : ℕ → ScanEnding → ScanEnding
scan_room room (stopped r) = stopped r
scan_room room (printed b) = when leb (length b) room then printed b else stopped (panel (base too_long))

unfoldable pub scan_answer : ScanEnding → Answer
scan_answer (stopped r) = record { code = scan_code r; units = 0; name = 0; len = 0; first = 0; second = 0 }
scan_answer (printed b) = record { code = 0; units = 0; name = 0; len = length b; first = 0; second = 0 }

unfoldable pub output_after_scans : ScanEnding → List ℕ → List ℕ
output_after_scans (stopped r) output = output
output_after_scans (printed b) output = b ++ drop (length b) output

pub record ScanResult : Type 0 where
  pub answer : Answer
  pub output : List ℕ

unfoldable pub scan_job : List ℕ → List ℕ → List ℕ → ScanResult
unfolding scan_answer output_after_scans scan_room scan_of
scan_job image recording output =
    let e = scan_room (length output) (scan_of image recording) in record { answer = scan_answer e; output = output_after_scans e output }
