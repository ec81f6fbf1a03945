-- A point's number, which is what a definition reads.
use Rattle.std.specs.Prelude.{ℕ}
use Rattle.scopes.specs.declared.Point.{Point}

abbrev pub number_of : Point → ℕ
number_of p = p.0
