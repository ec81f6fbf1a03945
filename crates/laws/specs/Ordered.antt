-- Sets of scopes that are declared, and bindings in the order of an image.
use Rattle.std.specs.Prelude.{ℕ, ◌^◌, ◌<◌, ◌≡◌, true, List, [], ◌∷◌}
use Rattle.model.specs.Objects.{Sets}
use Rattle.model.specs.Resolving.{Bind, bind_before}

-- three sets with no scope past the n-th
abbrev pub SetsIn : ℕ → Sets → Type 0
SetsIn n c = (c.at0 < 2 ^ n) × (c.at1 < 2 ^ n) × (c.at2 < 2 ^ n)

-- all of l are after b, each after the one before
abbrev pub Ascending : Bind → List Bind → Type 0
Ascending b [] = Unit {0}
Ascending b (c ∷ l) = (bind_before b c ≡ true) × Ascending c l

abbrev pub Sorted : List Bind → Type 0
Sorted [] = Unit {0}
Sorted (b ∷ l) = Ascending b l
