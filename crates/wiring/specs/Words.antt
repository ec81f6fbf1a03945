-- The words of the code, as the code makes them of tokens.
use Rattle.std.specs.Prelude.{ℕ, ◌+◌, ◌*◌, List, [], ◌∷◌, ◌++◌, eqb, get_or}
use Rattle.model.specs.Choice.{when◌then◌else◌}
use Rattle.bits.specs.declared.Token.{Token}
use Rattle.wiring.specs.declared.words.Join.{Join}
use Rattle.wiring.specs.declared.words.Join.TheVariants.{Load, Series, Parallel}

abbrev pub operands : ℕ
operands = 1024

-- a word for two bytes of the image at most
abbrev pub most_words : ℕ
most_words = 32768

abbrev pub most_what : ℕ
most_what = 10

-- the number of a join: words have them, and so have the definitions of what is wired
abbrev pub join_number : Join → ℕ
join_number Load = 0
join_number Series = 1
join_number Parallel = 2

-- a point, or a bit by the address that the table has for its name
unfoldable pub place_word : List ℕ → ℕ → ℕ → Token → ℕ
place_word table point bit t = when eqb t.tag 0 then bit * operands + get_or table t.content 0 else point * operands + t.content

unfoldable pub others_of : ℕ → ℕ
others_of rung = when eqb rung 0 then 1 else 2

unfoldable pub turn_of : ℕ → List ℕ
turn_of rung = when eqb rung 2 then 8192 ∷ [] else []

unfoldable pub join_word : ℕ → List ℕ
join_word join = when eqb join 0 then [] else (5 + join) * operands ∷ []

-- behind the words of the parts
unfoldable pub ending_of : ℕ → ℕ → List ℕ
unfolding turn_of join_word
ending_of rung join = turn_of rung ++ join_word join
