-- Document 02, T-02, scan runner: the recording, which is the count of scans, and for each the count of changed points, then point and
-- value, points ascending.
use Rattle.std.specs.Prelude.{ℕ, zero, suc, List, [], ◌∷◌, leb}
use Rattle.model.specs.Limits.{last_point}
use Rattle.model.specs.Refusals.{layout}
use Rattle.model.specs.Reading.{Reader, ◌>>=◌, ◌>>◌, give, need, num, num_up_to, at_end}

pub record Change : Type 0 where
  pub place : ℕ
  pub value : ℕ

-- a point that is at least `least`
unfoldable pub read_place : ℕ → Reader ℕ
unfolding num_up_to last_point
read_place least = do
  x ← num_up_to layout last_point
  need layout (leb least x)
  give x

unfoldable pub read_change : ℕ → Reader Change
unfolding read_place num_up_to
read_change least = do
  x ← read_place least
  v ← num_up_to layout 1
  give (record { place = x; value = v })

-- c more changes, each with a point behind the one before
unfoldable pub read_changes : ℕ → ℕ → Reader (List Change)
unfolding read_change
read_changes zero least = give []
read_changes (suc c) least = do
  q ← read_change least
  r ← read_changes c (suc q.place)
  give (q ∷ r)

unfoldable pub read_scan : Reader (List Change)
unfolding num read_changes
read_scan = do
  c ← num
  read_changes c 0

unfoldable pub read_scans : ℕ → Reader (List (List Change))
unfolding read_scan
read_scans zero = give []
read_scans (suc n) = do
  s ← read_scan
  r ← read_scans n
  give (s ∷ r)

-- so many scans, and nothing behind them
unfoldable pub read_to_end : ℕ → Reader (List (List Change))
unfolding read_scans at_end
read_to_end n = do
  r ← read_scans n
  at_end
  give r

unfoldable pub read_recording : Reader (List (List Change))
unfolding num read_to_end
read_recording = do
  n ← num
  read_to_end n
