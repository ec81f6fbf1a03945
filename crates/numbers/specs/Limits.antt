-- Limits of what is read from an image.
use Rattle.std.specs.Prelude.{ℕ}

-- bytes: the model's most_image
abbrev pub most_image : ℕ
most_image = 65536

-- levels of what is read or made: the model's most_nesting
abbrev pub most_nesting : ℕ
most_nesting = 64

-- numbers below this are one byte
abbrev pub one_byte_bound : ℕ
one_byte_bound = 128
