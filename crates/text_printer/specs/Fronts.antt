-- Numbers and sets passed over, as functions of the bytes: what they leave.
use Rattle.std.specs.Prelude.{ℕ, zero, suc, ◌≤◌, ◌≡◌, List, [], ◌∷◌, ltb, length, drop}
use Rattle.model.specs.Choice.{when◌then◌else◌}
use Rattle.model.specs.Reading.{Read, got, fault, num}
use Rattle.numbers.specs.Limits.{most_image}
use Rattle.text_printer.specs.declared.fronts.Front.{Front}

unfoldable pub value_of : Read ℕ → ℕ
value_of (got n s) = n
value_of (fault r) = 0

unfoldable pub after_number : List ℕ → List ℕ
after_number [] = []
after_number (b ∷ s) = when ltb b 128 then s else after_number s

unfoldable pub after_numbers : ℕ → List ℕ → List ℕ
unfolding after_number
after_numbers zero s = s
after_numbers (suc k) s = after_numbers k (after_number s)

unfoldable pub after_set : List ℕ → List ℕ
unfolding value_of num after_number after_numbers
after_set s = after_numbers (value_of (num s)) (after_number s)

-- three sets
abbrev pub after_sets : List ℕ → List ℕ
after_sets s = after_set (after_set (after_set s))

-- a place of an image
pub record Inside (image : List ℕ) (at : ℕ) : Type 0 where
  pub within : at ≤ length image
  pub short : length image ≤ most_image

-- from `past` on the image has s
pub record After (image : List ℕ) (past : ℕ) (s : List ℕ) : Type 0 where
  pub within : past ≤ length image
  pub is : drop past image ≡ s

pub record FrontIs (image : List ℕ) (at : ℕ) (r : Front) : Type 0 where
  pub tag_is : r.tag ≡ value_of (num (drop at image))
  pub content-is : r.content ≡ value_of (num (after_sets (after_number (drop at image))))
  pub past_is : After image r.past (after_number (after_sets (after_number (drop at image))))
