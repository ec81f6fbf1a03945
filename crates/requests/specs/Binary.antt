-- T-02: values are 0 or 1.
use Rattle.std.specs.Prelude.{ℕ, ◌≤◌, List, [], ◌∷◌}
use Rattle.requests.specs.Scanning.{State}

abbrev pub Binary : List ℕ → Type 0
Binary [] = Unit {0}
Binary (v ∷ l) = (v ≤ 1) × Binary l

pub record BinaryState (s : State) : Type 0 where
  pub points : Binary s.points
  pub bits : Binary s.bits
