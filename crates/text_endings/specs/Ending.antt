-- How the jobs of text end, as the code answers it.
use Rattle.std.specs.Prelude.{ℕ, ◌≤◌, ◌<◌, ◌≡◌, List, length, Result, Ok, Err}
use Rattle.requests.specs.FromText as t
use Rattle.requests.specs.FromText.{made, refused}
use Rattle.requests.specs.TextJobs.{TextEnding, output_after_text}
use Rattle.refusals.specs.Refusing.{refusal_of}
use Rattle.numbers.specs.Limits.{most_image}
use Rattle.text_endings.specs.declared.TextRefusal.{TextRefusal}
use Rattle.text_endings.specs.declared.TextRefusal.TheVariants.{Base, BadText, Unbalanced}

-- the code's refusals as the request's
abbrev pub text_refusal_of : TextRefusal → t.TextRefusal
text_refusal_of (Base f) = t.base (refusal_of f)
text_refusal_of BadText = t.bad_text
text_refusal_of Unbalanced = t.unbalanced

-- the most that there may be for an output of so many bytes
pub record Room (out r : ℕ) : Type 0 where
  pub in_out : r ≤ out
  pub in_image : r ≤ most_image
  pub most : (n : ℕ) → n ≤ out → n ≤ most_image → n ≤ r

-- the length of these bytes, or one over `most` where they are longer
pub record Measured (bytes : List ℕ) (most r : ℕ) : Type 0 where
  pub exact : r ≤ most → length bytes ≡ r
  pub long : most < r → most < length bytes

-- n bytes were written
pub record MadeOf (e : TextEnding) (n : ℕ) : Type 0 where
  pub bytes : List ℕ
  pub is : e ≡ made bytes
  pub long : length bytes ≡ n

abbrev pub says : TextEnding → Result ℕ TextRefusal → Type 0
says e (Ok n) = MadeOf e n
says e (Err f) = e ≡ refused (text_refusal_of f)

-- an ending, as the code answers it and leaves the bytes lent
pub record Ends (e : TextEnding) (out out' : List ℕ) (r : Result ℕ TextRefusal) : Type 0 where
  pub answer : says e r
  pub left : out' ≡ output_after_text e out
