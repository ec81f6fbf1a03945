-- One scan: the state after it is the definition's, for every program whose code it is.
use Rattle.std.specs.Prelude.{ℕ, ◌+◌, ◌-◌, ◌≤◌, ◌≡◌, true, List, [], length, drop}
use Rattle.model.specs.Trees.{Tree}
use Rattle.model.specs.Reading.{got}
use Rattle.requests.specs.Panel.{is_program}
use Rattle.requests.specs.Recording.{Change, read_scan}
use Rattle.requests.specs.Scanning.{scan}
use Rattle.requests.specs.Binary.{BinaryState}
use Rattle.numbers.specs.Limits.{most_image}
use Rattle.numbers.specs.declared.Cursor.{Cursor}
use Rattle.recordings.specs.Taking.{Readable}
use Rattle.ladder.specs.Code.{rungs}
use Rattle.ladder.specs.Running.{instructions_of}
use Rattle.ladder.specs.Places.{Ready}

-- what is asked, where s is the recording from the place `at` on
pub record Scannable (at : ℕ) (s code points bits : List ℕ) : Type 0 where
  pub short : at + length s ≤ most_image
  pub readable : Readable (read_scan s)
  pub ready : Ready code points bits

-- this program's code
pub record CodeOf (t : Tree) (code : List ℕ) : Type 0 where
  pub program : is_program t ≡ true
  pub code_is : instructions_of code ≡ rungs [] 0 t

-- the place r is behind the scan's changes
pub record Scanned (at : ℕ) (s code points bits points' bits' : List ℕ) (r : Cursor) : Type 0 where
  pub moved : at ≤ r.at
  pub within : r.at ≤ at + length s
  pub behind : (l : List Change) (rest : List ℕ) → read_scan s ≡ got l rest → rest ≡ drop (r.at - at) s
  pub state-is : (t : Tree) → CodeOf t code → (l : List Change) (rest : List ℕ) → read_scan s ≡ got l rest
      → record { points = points'; bits = bits' } ≡ scan t l (record { points = points; bits = bits })
  -- values stay 0 or 1
  pub binary : (t : Tree) → CodeOf t code → BinaryState (record { points = points'; bits = bits' })
