-- Document 02, T-05: the two jobs, text to image and image to text; and last 20, where what is made is longer than the output or 65,536 bytes.
use Rattle.std.specs.Prelude.{ℕ, ◌&&◌, List, ◌++◌, leb, length, drop}
use Rattle.model.specs.Choice.{when◌then◌else◌}
use Rattle.model.specs.Limits.{most_image}
use Rattle.model.specs.Refusals.{too_long}
use Rattle.model.specs.Objects.{Stx}
use Rattle.model.specs.Reading.{Read, got, fault, Image, read_image, read_syntax}
use Rattle.model.specs.Writing.{syntax_bytes}
use Rattle.model.specs.Jobs.{Answer}
use Rattle.requests.specs.FromText.{base, text_code, Made, made, refused, read_text}
use Rattle.requests.specs.ToText.{print_text}

abbrev pub TextEnding : Type 0
TextEnding = Made (List ℕ)

-- b, for an output of `room` bytes
unfoldable pub fitted : ℕ → List ℕ → TextEnding
unfolding most_image
fitted room b = when leb (length b) room && leb (length b) most_image then made b else refused (base too_long)

-- ---- text to image

unfoldable pub image_in : ℕ → Made (Image Stx) → TextEnding
unfolding fitted syntax_bytes
image_in room (made i) = fitted room (syntax_bytes i.head i.binds i.root)
image_in room (refused r) = refused r

unfoldable pub read_ending : List ℕ → ℕ → TextEnding
unfolding image_in read_text
read_ending text room = image_in room (read_text text)

-- ---- image to text

unfoldable pub text_in : ℕ → Read (Image Stx) → TextEnding
unfolding fitted print_text
text_in room (got i s) = fitted room (print_text i)
text_in room (fault r) = refused (base r)

unfoldable pub print_ending : List ℕ → ℕ → TextEnding
unfolding text_in read_image read_syntax
print_ending image room = text_in room (read_image read_syntax image)

-- ---- what comes back, and the output after it: untouched by a refusal, and past what is written

unfoldable pub text_answer : TextEnding → Answer
text_answer (refused r) = record { code = text_code r; units = 0; name = 0; len = 0; first = 0; second = 0 }
text_answer (made b) = record { code = 0; units = 0; name = 0; len = length b; first = 0; second = 0 }

unfoldable pub output_after_text : TextEnding → List ℕ → List ℕ
output_after_text (refused r) output = output
output_after_text (made b) output = b ++ drop (length b) output

pub record TextResult : Type 0 where
  pub answer : Answer
  pub output : List ℕ

unfoldable pub text_result : TextEnding → List ℕ → TextResult
unfolding text_answer output_after_text
text_result e output = record { answer = text_answer e; output = output_after_text e output }

unfoldable pub read_job : List ℕ → List ℕ → TextResult
unfolding text_result read_ending
read_job text output = text_result (read_ending text (length output)) output

unfoldable pub print_job : List ℕ → List ℕ → TextResult
unfolding text_result print_ending
print_job image output = text_result (print_ending image (length output)) output
