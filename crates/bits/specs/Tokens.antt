-- The tokens that the bytes of a tree are, where it has neither list nor syntax values.
use Rattle.std.specs.Prelude.{ℕ, eqb}
use Rattle.model.specs.Choice.{when◌then◌else◌}
use Rattle.model.specs.Reading.{Reader, ◌>>=◌, give, num}
use Rattle.bits.specs.declared.Token.{Token}

unfoldable pub read_content : ℕ → ℕ → Reader Token
unfolding num
read_content tag kind = do
  x ← num
  give (record { tag = tag; kind = kind; content = x })

-- behind an atom's tag
unfoldable pub read_kind : Reader Token
unfolding num read_content
read_kind = do
  kind ← num
  read_content 3 kind

-- behind any tag
unfoldable pub read_behind : ℕ → Reader Token
unfolding read_kind read_content
read_behind tag = when eqb tag 3 then read_kind else read_content tag 0

unfoldable pub read_token : Reader Token
unfolding num read_behind
read_token = do
  tag ← num
  read_behind tag
