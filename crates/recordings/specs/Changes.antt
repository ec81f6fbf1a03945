-- One change of a recording, as the code reads it.
use Rattle.std.specs.Prelude.{ℕ}
use Rattle.model.specs.Refusals.{layout}
use Rattle.model.specs.Reading.{Reader, ◌>>=◌, give, num_up_to}
use Rattle.requests.specs.Recording as r
use Rattle.recordings.specs.declared.Change.{Change}

abbrev pub coded : r.Change → Change
coded q = record { place = q.place; value = q.value }

-- behind the point x
unfoldable pub read_value : ℕ → Reader Change
unfolding num_up_to
read_value x = do
  v ← num_up_to layout 1
  give (record { place = x; value = v })
