-- What the panel check says of an image, of the marks and names kept, and of the words lent.
use Rattle.std.specs.Prelude.{ℕ, ◌*◌, ◌≤◌, ◌<◌, ◌≡◌, true, false, List, [], ltb, length, get_or, take, drop, Option, Some, None, Result, Ok, Err}
use Rattle.model.specs.Choice.{when◌then◌else◌}
use Rattle.model.specs.Limits.{most_nesting}
use Rattle.model.specs.Trees.{Tree}
use Rattle.model.specs.Reading.{Image, got, read_tree, read_tree_image, read_image}
use Rattle.model.specs.Meanings.{is_among}
use Rattle.model.specs.Jobs.{Answer, closed}
use Rattle.requests.specs.Panel.{is_program, driven, bits_of, PanelEnding, refused, listed, panel_of, room_for, panel_answer, panel_code, bits_after}
use Rattle.numbers.specs.Limits.{most_image}
use Rattle.numbers.specs.declared.Cursor.{Cursor}
use Rattle.codec_laws.specs.WellFormed.{Bytes, HeadFits}
use Rattle.bits.specs.declared.Gathered.{Gathered}
use Rattle.bits.specs.Meeting.{points, room}
use Rattle.panel_check.specs.declared.Program.{Program}
use Rattle.panel_check.specs.declared.refusal.PanelRefusal.{PanelRefusal}
use Rattle.panel_check.specs.declared.refusal.PanelRefusal.TheVariants.{DrivenTwice, TooManyBits}
use Rattle.panel_check.specs.Refusing.{panel_refusal_of}

-- ---- a tree image without fault, whose root begins here
pub record RootGood (image : List ℕ) (root : ℕ) : Type 0 where
  pub read : Image Tree
  pub reads : read_image read_tree_image image ≡ got read []
  pub owned : closed [] read.root ≡ true
  pub bytes : Bytes image
  pub short : length image ≤ most_image
  pub head-fits : HeadFits read.head
  pub root-within : root ≤ length image
  pub root-reads : read_tree most_nesting read.head 0 (drop root image) ≡ got read.root []

-- ---- whether it is a program

pub record ProgramAt (image : List ℕ) (root : ℕ) : Type 0 where
  pub good : RootGood image root
  pub program : is_program good.read.root ≡ true

abbrev pub NoProgram : List ℕ → Type 0
NoProgram image = (i : Image Tree) → read_image read_tree_image image ≡ got i [] → closed [] i.root ≡ true → is_program i.root ≡ false

pub record Finds (image : List ℕ) (r : Option Cursor) : Type 0 where
  pub found : (c : Cursor) → r ≡ Some c → ProgramAt image c.at
  pub missed : r ≡ None → NoProgram image

abbrev pub Refuses : List ℕ → PanelRefusal → Type 0
Refuses image f = panel_of image ≡ refused (panel_refusal_of f)

-- ---- the check

-- a program that is accepted: which points are marked, and that the names are those of its bits
pub record Passes (image marks names : List ℕ) (q : Program) : Type 0 where
  pub good : RootGood image q.root
  pub program : is_program good.read.root ≡ true
  pub few : q.bits ≤ room
  pub counted : q.bits ≡ length (bits_of good.read.root)
  pub named : take q.bits names ≡ bits_of good.read.root
  pub marked : (x : ℕ) → x < points → get_or marks x 0 ≡ (when is_among x (driven good.read.root) then 1 else 0)

abbrev pub ending_in : List ℕ → Result Program PanelRefusal → PanelEnding
ending_in names (Ok q) = listed (take q.bits names)
ending_in names (Err f) = refused (panel_refusal_of f)

pub record Checks (image marks names : List ℕ) (r : Result Program PanelRefusal) : Type 0 where
  pub is : panel_of image ≡ ending_in names r
  pub passes : (q : Program) → r ≡ Ok q → Passes image marks names q

-- 22 before 23
unfoldable pub within_of : ℕ → Gathered → Result Program PanelRefusal
within_of root g =
    when g.twice then Err DrivenTwice
    else when ltb room g.bits then Err TooManyBits
    else Ok (record { root = root; bits = g.bits })

abbrev pub Within : ℕ → Gathered → Result Program PanelRefusal → Type 0
Within root g r = r ≡ within_of root g

-- ---- the names listed

abbrev pub answer_for : Result ℕ PanelRefusal → Answer
answer_for (Ok n) = record { code = 0; units = 0; name = 0; len = 4 * n; first = 0; second = 0 }
answer_for (Err f) = record { code = panel_code (panel_refusal_of f); units = 0; name = 0; len = 0; first = 0; second = 0 }

-- an ending, as the code answers it and leaves the words lent
pub record Ends (e : PanelEnding) (bits bits' : List ℕ) (r : Result ℕ PanelRefusal) : Type 0 where
  pub few : (n : ℕ) → r ≡ Ok n → n ≤ room
  pub answer : answer_for r ≡ panel_answer e
  pub left : bits' ≡ bits_after e bits

abbrev pub ListsFrom : List ℕ → ℕ → List ℕ → List ℕ → Result ℕ PanelRefusal → Type 0
ListsFrom names count bits bits' r = Ends (room_for (length bits) (listed (take count names))) bits bits' r

abbrev pub Lists : List ℕ → List ℕ → List ℕ → Result ℕ PanelRefusal → Type 0
Lists image bits bits' r = Ends (room_for (length bits) (panel_of image)) bits bits' r
