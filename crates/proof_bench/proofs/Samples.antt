-- A few images of some bytes, what the definition gives for them at phase 0 with a budget of 32, and that a call can hand them over.
use mathlib.Core.Path.{◌≡◌, refl, ap, ◌∙◌}
use Prim.Native.Nat.{ℕ, zero, suc, ◌<◌}
use native.Mathlib.Omega.{arith}
use mathlib.Core.List.{List, [], ◌∷◌}
use lib.ListN.{length, replicate}
use Rattle.model.specs.Jobs.{Result, expand_job}
use Rattle.codec_laws.specs.WellFormed.{Bytes}
use Rattle.codec_laws.proofs.Sequence.{all_bytes, all-bytes}
use Rattle.addresses.specs.OneNameOneAddress.{image_written}
use Rattle.proof_bench.specs.Meeting.{Words, Call, Expanding, MeetsExpand}
use Rattle.proof_bench.proofs.Uniqueness.{one-result}

-- the number 7
unfoldable pub seven : List ℕ
seven = 1 ∷ 0 ∷ 0 ∷ 0 ∷ 0 ∷ 1 ∷ 0 ∷ 0 ∷ 0 ∷ 7 ∷ []

-- (lambda x x), the image that document 01 shows whole
unfoldable pub identity : List ℕ
identity =
    1 ∷ 1 ∷ 1 ∷ 120 ∷ 0 ∷ 0 ∷ 0 ∷ 5 ∷ 0 ∷ 0 ∷ 0 ∷ 3 ∷ 0 ∷ 0 ∷ 0 ∷ 0 ∷ 0 ∷ 0 ∷ 0 ∷ 0 ∷ 0 ∷ 4 ∷ 0 ∷ 0 ∷ 0 ∷ 0 ∷ 4 ∷ []

-- (7 (lambda x x))
unfoldable pub applied : List ℕ
applied =
    1 ∷ 1 ∷ 1 ∷ 120 ∷ 0 ∷ 0 ∷ 0 ∷ 5 ∷ 0 ∷ 0 ∷ 0 ∷ 2 ∷ 1 ∷ 0 ∷ 0 ∷ 0 ∷ 7
    ∷ 5 ∷ 0 ∷ 0 ∷ 0 ∷ 3 ∷ 0 ∷ 0 ∷ 0 ∷ 0 ∷ 0 ∷ 0 ∷ 0 ∷ 0 ∷ 0 ∷ 4 ∷ 0 ∷ 0 ∷ 0 ∷ 0 ∷ 4 ∷ []

-- ((lambda x x) (lambda x x))
unfoldable pub doubled : List ℕ
doubled =
    1 ∷ 1 ∷ 1 ∷ 120 ∷ 0 ∷ 0 ∷ 0 ∷ 5 ∷ 0 ∷ 0 ∷ 0 ∷ 2
    ∷ 5 ∷ 0 ∷ 0 ∷ 0 ∷ 3 ∷ 0 ∷ 0 ∷ 0 ∷ 0 ∷ 0 ∷ 0 ∷ 0 ∷ 0 ∷ 0 ∷ 4 ∷ 0 ∷ 0 ∷ 0 ∷ 0 ∷ 4
    ∷ 5 ∷ 0 ∷ 0 ∷ 0 ∷ 3 ∷ 0 ∷ 0 ∷ 0 ∷ 0 ∷ 0 ∷ 0 ∷ 0 ∷ 0 ∷ 0 ∷ 4 ∷ 0 ∷ 0 ∷ 0 ∷ 0 ∷ 4 ∷ []

-- (lambda x (lambda y x))
unfoldable pub nested : List ℕ
nested =
    1 ∷ 2 ∷ 1 ∷ 120 ∷ 1 ∷ 121 ∷ 0 ∷ 0 ∷ 0 ∷ 5 ∷ 0 ∷ 0 ∷ 0 ∷ 3 ∷ 0 ∷ 0 ∷ 0 ∷ 0 ∷ 0 ∷ 0 ∷ 0 ∷ 0 ∷ 0 ∷ 4
    ∷ 5 ∷ 0 ∷ 0 ∷ 0 ∷ 3 ∷ 0 ∷ 0 ∷ 0 ∷ 0 ∷ 0 ∷ 0 ∷ 0 ∷ 0 ∷ 0 ∷ 5 ∷ 0 ∷ 0 ∷ 0 ∷ 0 ∷ 4 ∷ []

unfoldable pub words : List ℕ
words = replicate 1280 0

unfoldable pub room : List ℕ
room = replicate 64 0

-- what the definition gives for an image
unfoldable pub expanded : List ℕ → Result
unfolding words room
expanded image = expand_job image 0 32 words room

pub seven_code : (expanded seven).answer.code ≡ 0
unfolding expanded seven words room expand_job
seven_code = refl

pub seven_units : (expanded seven).answer.units ≡ 2
unfolding expanded seven words room expand_job
seven_units = refl

pub seven_image : image_written (expanded seven) ≡ 1 ∷ 0 ∷ 0 ∷ 0 ∷ 0 ∷ 1 ∷ 0 ∷ 0 ∷ 0 ∷ 7 ∷ []
unfolding expanded seven words room expand_job image_written
seven_image = refl

pub identity_code : (expanded identity).answer.code ≡ 0
unfolding expanded identity words room expand_job
identity_code = refl

pub identity_units : (expanded identity).answer.units ≡ 8
unfolding expanded identity words room expand_job
identity_units = refl

-- x{1} bound to name 5: one made name, one scope, one binding
pub identity_image : image_written (expanded identity)
    ≡ 1 ∷ 1 ∷ 1 ∷ 120 ∷ 1 ∷ 1 ∷ 1 ∷ 4 ∷ 5 ∷ 1 ∷ 1 ∷ 5 ∷ 0 ∷ 0 ∷ 0 ∷ 3 ∷ 0 ∷ 0 ∷ 0 ∷ 0 ∷ 0
    ∷ 0 ∷ 1 ∷ 1 ∷ 0 ∷ 0 ∷ 4 ∷ 0 ∷ 1 ∷ 1 ∷ 0 ∷ 0 ∷ 4 ∷ []
unfolding expanded identity words room expand_job image_written
identity_image = refl

pub applied_units : (expanded applied).answer.units ≡ 12
unfolding expanded applied words room expand_job
applied_units = refl

pub doubled_code : (expanded doubled).answer.code ≡ 0
unfolding expanded doubled words room expand_job
doubled_code = refl

pub doubled_units : (expanded doubled).answer.units ≡ 18
unfolding expanded doubled words room expand_job
doubled_units = refl

pub doubled_length : length (image_written (expanded doubled)) ≡ 64
unfolding expanded doubled words room expand_job image_written
doubled_length = refl

pub nested_length : (expanded nested).answer.len ≡ 59
unfolding expanded nested words room expand_job
nested_length = refl

-- ---- they can be handed over

-- each of the images with that budget, table and output can be handed over
zero-bytes : (n : ℕ) → Bytes (replicate n 0)
zero-bytes zero = tt
zero-bytes (suc n) = (omega arith, zero-bytes n)

zero-words : (n : ℕ) → Words (replicate n 0)
zero-words zero = tt
zero-words (suc n) = (omega arith, zero-words n)

call : (image : List ℕ) → Bytes image → length image < 64 → Call image 0 32 words room
unfolding words room
call image b h = record {
  image-bytes = b;
  image-length = omega arith;
  phase = omega arith;
  budget-number = omega arith;
  table-words = zero-words 1280;
  table-length = omega arith;
  output-bytes = zero-bytes 64;
  output-length = omega arith;
}

pub seven_call : Call seven 0 32 words room
unfolding seven all_bytes
seven_call = call seven (all-bytes seven refl) (omega arith)

pub identity_call : Call identity 0 32 words room
unfolding identity all_bytes
identity_call = call identity (all-bytes identity refl) (omega arith)

pub applied_call : Call applied 0 32 words room
unfolding applied all_bytes
applied_call = call applied (all-bytes applied refl) (omega arith)

pub doubled_call : Call doubled 0 32 words room
unfolding doubled all_bytes
doubled_call = call doubled (all-bytes doubled refl) (omega arith)

pub nested_call : Call nested 0 32 words room
unfolding nested all_bytes
nested_call = call nested (all-bytes nested refl) (omega arith)

-- ---- a function that meets the contract

module _ (f : Expanding) (meets : MeetsExpand f) (image : List ℕ) (c : Call image 0 32 words room) where
  -- gives what the definition gives
  pub as_defined : f image 0 32 words room ≡ expanded image
  unfolding expanded
  as_defined = one-result _ _ _ (meets image 0 32 words room c) (record { answer-is = refl; output-is = refl; table_is = refl })

  pub code_is : (expanded image).answer.code ≡ 0 → (f image 0 32 words room).answer.code ≡ 0
  code_is e = ap (λ (z : Result). z.answer.code) as_defined ∙ e

  pub image-is : image_written (f image 0 32 words room) ≡ image_written (expanded image)
  image-is = ap image_written as_defined

  pub units-are : (f image 0 32 words room).answer.units ≡ (expanded image).answer.units
  units-are = ap (λ (z : Result). z.answer.units) as_defined
