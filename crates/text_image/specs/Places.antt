-- Lines and columns, as people count them: document 02, T-05, for people.
use Rattle.std.specs.Prelude.{ℕ, ◌+◌, Bool, not, List, [], ◌∷◌, get_or, eqb}
use Rattle.model.specs.Choice.{when◌then◌else◌}
use Rattle.text_image.specs.declared.positions.Place.{Place}

-- a line ends with LF, with CR LF, or with CR where no LF follows
unfoldable pub ends_line : ℕ → ℕ → Bool
ends_line b next = when eqb b 13 then not (eqb next 10) else eqb b 10

-- the place past these bytes, from a line and a column on
unfoldable pub place_from : ℕ → ℕ → List ℕ → Place
unfolding ends_line
place_from line column [] = record { line = line; column = column }
place_from line column (b ∷ s) = when ends_line b (get_or s 0 0) then place_from (line + 1) 1 s else place_from line (column + 1) s
