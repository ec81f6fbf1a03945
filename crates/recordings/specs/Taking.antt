-- The changes of a scan that was judged, taken into the points.
use Rattle.std.specs.Prelude.{ℕ, ◌+◌, ◌-◌, ◌≤◌, ◌≡◌, List, length, drop}
use Rattle.model.specs.Reading.{Read, got}
use Rattle.numbers.specs.Answers.{kept}
use Rattle.numbers.specs.declared.Cursor.{Cursor}
use Rattle.requests.specs.Recording.{Change}
use Rattle.requests.specs.Scanning.{changed}

pub record Readable (g : Read (List Change)) : Type 0 where
  pub changes : List Change
  pub rest : List ℕ
  pub is : g ≡ got changes rest

-- what g reads at the place `at`, where s is the recording from there on: `points'` are the points after the changes, and behind them
-- comes what lies at the place r
pub record Taken (g : Read (List Change)) (points : List ℕ) (at : ℕ) (s points' : List ℕ) (r : Cursor) : Type 0 where
  pub moved : at ≤ r.at
  pub within : r.at ≤ at + length s
  pub is : kept (λ l. changed l points) g ≡ got points' (drop (r.at - at) s)
