-- What the code says of a recording, with a mark at each driven point: whether it keeps its layout, and whether a change names a mark.
use Rattle.std.specs.Prelude.{ℕ, ◌-◌, ◌<◌, ◌≡◌, Bool, false, not, ◌||◌, List, [], ◌∷◌, eqb, leb, length, get_or, Result, Ok, Err}
use Rattle.model.specs.Choice.{when◌then◌else◌}
use Rattle.model.specs.Reading as m
use Rattle.model.specs.Reading.{got, fault, num}
use Rattle.model.specs.Meanings.{is_among}
use Rattle.numbers.specs.Limits.{most_image}
use Rattle.numbers.specs.declared.Cursor.{Cursor}
use Rattle.bits.specs.Meeting.{points}
use Rattle.requests.specs.Recording.{Change, read_to_end}
use Rattle.recordings.specs.declared.RecordingRefusal.{RecordingRefusal}
use Rattle.recordings.specs.declared.RecordingRefusal.TheVariants.{Broken, Driven}

-- the marks are at the points of d
abbrev pub MarksOf : List ℕ → List ℕ → Type 0
MarksOf d marks = (x : ℕ) → x < points → get_or marks x 0 ≡ (when is_among x d then 1 else 0)

unfoldable pub is_marked : List ℕ → ℕ → Bool
is_marked marks x = not (eqb (get_or marks x 0) 0)

unfoldable pub changes_marked : List ℕ → List Change → Bool
unfolding is_marked
changes_marked marks [] = false
changes_marked marks (q ∷ l) = is_marked marks q.place || changes_marked marks l

-- in these changes, or before them
abbrev pub or_marked : List ℕ → Bool → List Change → Bool
or_marked marks before l = before || changes_marked marks l

unfoldable pub any_marked : List ℕ → List (List Change) → Bool
unfolding changes_marked
any_marked marks [] = false
any_marked marks (l ∷ r) = changes_marked marks l || any_marked marks r

-- how many scans a recording has and where the first begins, or why it is refused
abbrev pub Judged : Type 0
Judged = Result (ℕ × Cursor) RecordingRefusal

-- n scans, the first of them at c
unfoldable pub judged_all : List ℕ → ℕ → Cursor → m.Read (List (List Change)) → Judged
unfolding any_marked
judged_all marks n c (got r rest) = when any_marked marks r then Err Driven else Ok (n, c)
judged_all marks n c (fault f) = Err Broken

-- by the count of scans, of a recording that ends at the place `end`
unfoldable pub judged_count : List ℕ → ℕ → m.Read ℕ → Judged
unfolding judged_all read_to_end
judged_count marks end (got n rest) = judged_all marks n (record { at = end - length rest }) (read_to_end n rest)
judged_count marks end (fault f) = Err Broken

unfoldable pub judged_of : List ℕ → List ℕ → Judged
unfolding judged_count num
judged_of marks s = when leb (length s) most_image then judged_count marks (length s) (num s) else Err Broken
