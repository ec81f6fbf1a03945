-- The line after a scan, of what the code holds: a mark for each point that is driven, the list of these points, and each point's value.
use Rattle.std.specs.Prelude.{ℕ, zero, suc, ◌+◌, ◌≤◌, ◌<◌, ◌≡◌, List, [], ◌∷◌, ◌++◌, eqb, length, get_or, take}
use Rattle.model.specs.Choice.{when◌then◌else◌}
use Rattle.model.specs.Meanings.{is_among}
use Rattle.model.specs.Jobs.{digits}
use Rattle.requests.specs.Scanning.{State}
use Rattle.requests.specs.ScanJob.{line_after}
use Rattle.bits.specs.Meeting.{points}

-- these marks stand for these points
pub record Marks (d marks : List ℕ) : Type 0 where
  pub has : (x : ℕ) → x < points → get_or marks x 0 ≡ (when is_among x d then 1 else 0)

-- those of the c points from x on that have a mark
unfoldable pub marked : ℕ → ℕ → List ℕ → List ℕ
marked zero x marks = []
marked (suc c) x marks = when eqb (get_or marks x 0) 0 then marked c (suc x) marks else x ∷ marked c (suc x) marks

unfoldable pub marked_places : List ℕ → List ℕ
unfolding marked
marked_places marks = marked points 0 marks

-- x behind the first n places, where it has a mark: r places then
pub record Listed (mark x : ℕ) (was now : List ℕ) (n r : ℕ) : Type 0 where
  pub same : length now ≡ length was
  pub few : r ≤ n + 1
  pub is : take r now ≡ (when eqb mark 0 then take n was else take n was ++ (x ∷ []))

-- the first r places are those with a mark
pub record Lists (marks places : List ℕ) (r : ℕ) : Type 0 where
  pub within : r ≤ length places
  pub is : take r places ≡ marked_places marks

pub record Points (places : List ℕ) : Type 0 where
  pub below : (i : ℕ) → get_or places i 0 < points

-- one point in the line
unfoldable pub point_shown : ℕ → ℕ → List ℕ
unfolding digits
point_shown x v = 32 ∷ 64 ∷ digits 10 x (61 ∷ digits 10 v [])

-- points with these values, as far as a line shows them: it shows no bits
abbrev pub held : List ℕ → State
held values = record { points = values; bits = [] }

-- the definition's line
unfoldable pub line_of : List ℕ → ℕ → List ℕ → List ℕ
unfolding line_after
line_of places k values = line_after places k (held values)
