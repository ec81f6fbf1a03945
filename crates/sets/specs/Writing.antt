-- How long written sets can be.
use Rattle.std.specs.Prelude.{ℕ, ◌+◌, ◌*◌}
use Rattle.scopes.specs.Sets.{set_scopes, most_long}

-- two bytes for the count, and one for each scope, or two
abbrev pub longest_set : ℕ
longest_set = 2 + set_scopes + most_long

abbrev pub longest_sets : ℕ
longest_sets = 3 * longest_set
