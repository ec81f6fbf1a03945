-- The text of a judged image.
use Rattle.std.specs.Prelude.{ℕ, ◌+◌, ◌≤◌, ◌≡◌, Bool, List, [], length, drop}
use Rattle.model.specs.Objects.{Stx, nesting}
use Rattle.model.specs.Reading.{Read, got, fault, Image, read_image, read_syntax}
use Rattle.model.specs.Writing.{stx_bytes}
use Rattle.codec_laws.specs.WellFormed.{StxFits}
use Rattle.requests.specs.ToText.{print_text}
use Rattle.text_laws.specs.Single.{space_if}
use Rattle.numbers.specs.Limits.{most_image, most_nesting}
use Rattle.text_printer.specs.Walking.{most_open}
use Rattle.text_printer.specs.Spelling.{words_at, spelling, Spelled}
use Rattle.text_printer.specs.Atoms.{atom_text, Printable}

unfoldable pub text_of_read : Read (Image Stx) → List ℕ
unfolding print_text
text_of_read (got i s) = print_text i
text_of_read (fault r) = []

-- the text of an image
unfoldable pub print_of : List ℕ → List ℕ
unfolding text_of_read read_image read_syntax
print_of image = text_of_read (read_image read_syntax image)

-- an image without fault, whose root begins at `root` and whose n words are found
pub record Ready (image starts : List ℕ) (n root : ℕ) : Type 0 where
  pub whole : Image Stx
  pub reads : read_image read_syntax image ≡ got whole []
  pub scopes-few : whole.head.scopes ≤ 256
  pub short : length image ≤ most_image
  pub within : root ≤ length image
  pub bytes : drop root image ≡ stx_bytes whole.root
  pub fits : StxFits (4 + n) whole.head.scopes whole.root
  pub shallow : nesting whole.root ≤ most_nesting
  pub words : Spelled image starts n
  pub spelled : words_at image starts 0 n ≡ whole.head.words

pub record SpacedRoom (out : List ℕ) (at : ℕ) (due : Bool) (image starts : List ℕ) (n tag content : ℕ) : Type 0 where
  pub printable : Printable image starts n tag content
  pub room : at + length (space_if due (atom_text (spelling image starts n) tag content)) ≤ length out

-- with room for the counts of parts to come
pub record TextReady (image starts : List ℕ) (n : ℕ) (left : List ℕ) (root most : ℕ) : Type 0 where
  pub ready : Ready image starts n root
  pub room : length left ≡ most_open
  pub most-small : most ≤ most_image

pub record TextRoom (out image starts : List ℕ) (n : ℕ) (left : List ℕ) (root : ℕ) : Type 0 where
  pub ready : Ready image starts n root
  pub counts-room : length left ≡ most_open
  pub room : length (print_of image) ≤ length out
