-- The tags, by the names that the code has for them. Those of atoms are the model's `tag_of`.
use Rattle.std.specs.Prelude.{ℕ}

-- a syntax object that is a list
abbrev pub list_tag : ℕ
list_tag = 5

abbrev pub variable_tag : ℕ
variable_tag = 6

abbrev pub application_tag : ℕ
application_tag = 7

abbrev pub function_tag : ℕ
function_tag = 8

abbrev pub list_value_tag : ℕ
list_value_tag = 9

-- an atom as a value: this, and the atom's tag on top
abbrev pub atom_value_tag : ℕ
atom_value_tag = 10

-- a number, and a primitive, as values
abbrev pub number_value_tag : ℕ
number_value_tag = 11

abbrev pub primitive_value_tag : ℕ
primitive_value_tag = 13
