-- The code's endings as document 01's, with what they leave in the output.
use Rattle.std.specs.Prelude.{ℕ, ◌≤◌, ◌≡◌, List, length, take}
use Rattle.model.specs.Jobs as m
use Rattle.model.specs.Jobs.{output_after}
use Rattle.model.specs.Competing.{no_rivals}
use Rattle.refusals.specs.Refusing.{refusal_of}
use Rattle.store.specs.Rivalry.{rivals_of}
use Rattle.numbers.specs.Limits.{most_image}
use Rattle.finish.specs.declared.Ending.{Ending}
use Rattle.finish.specs.declared.Ending.TheVariants.{Refused, Stopped, Named, Written}

-- a written image stands at the start of the output
abbrev pub ending_of : List ℕ → Ending → m.Ending
ending_of output (Refused f u) = m.refused (refusal_of f) no_rivals u
ending_of output (Stopped f p u) = m.refused (refusal_of f) (rivals_of p) u
ending_of output (Named n u) = m.named n.0 u
ending_of output (Written n u) = m.written (take n output) u

abbrev pub length_of : Ending → ℕ
length_of (Refused f u) = 0
length_of (Stopped f p u) = 0
length_of (Named n u) = 0
length_of (Written n u) = n

-- the job ends as e, and the output, which was `out`, is as e leaves it
pub record EndsAs (e : m.Ending) (out out' : List ℕ) (r : Ending) : Type 0 where
  pub is : ending_of out' r ≡ e
  pub left : out' ≡ output_after e out
  pub inside : length_of r ≤ length out'
  pub short : length_of r ≤ most_image
