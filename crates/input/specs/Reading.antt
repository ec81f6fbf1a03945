-- How many bytes a reading put at the front of a room.
use Rattle.std.specs.Prelude.{ℕ, ◌≤◌, ◌≡◌, List, length, take}

-- the front of n bytes is within the room; the second part follows, and is here because a caller that takes the front has to show it
abbrev pub IsPrefixLen : ℕ → List ℕ → Type 0
IsPrefixLen n room = (n ≤ length room) × (n ≡ length (take n room))
