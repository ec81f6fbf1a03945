-- Numbers and sets that are known to stand at a place of an image.
use Rattle.std.specs.Prelude.{◌≡◌, List, ℕ, ◌+◌, ◌≤◌, length, drop}
use Rattle.scopes.specs.Sets.{set_scopes}
use Rattle.numbers.specs.Limits.{most_image}
use Rattle.model.specs.Objects as m
use Rattle.model.specs.Reading.{got, num, read_sets}
use Rattle.table.specs.declared.Sets.{Sets}
use Rattle.table.specs.Words.{sets_of}

-- a place of an image
pub record Within (image : List ℕ) (at : ℕ) : Type 0 where
  pub inside : at ≤ length image
  pub short : length image ≤ most_image

-- `rest` is what the image has from `past` on, which is not before `from`
pub record Left (image : List ℕ) (from past : ℕ) (rest : List ℕ) : Type 0 where
  pub moved : from ≤ past
  pub inside : past ≤ length image
  pub is : rest ≡ drop past image

pub record NumberHere (image : List ℕ) (at : ℕ) : Type 0 where
  pub place : Within image at
  pub n : ℕ
  pub rest : List ℕ
  pub is : num (drop at image) ≡ got n rest

pub record NumberRead (image : List ℕ) (at value past : ℕ) : Type 0 where
  pub value-is : (n : ℕ) (rest : List ℕ) → num (drop at image) ≡ got n rest → value ≡ n
  pub left : (n : ℕ) (rest : List ℕ) → num (drop at image) ≡ got n rest → Left image (at + 1) past rest

-- an object up to its parts: tag, sets, and its content or the count of its parts
pub record ObjectFront (scopes : ℕ) (s : List ℕ) (tag : ℕ) (sets : m.Sets) (n : ℕ) (rest : List ℕ) : Type 0 where
  pub behind-tag : List ℕ
  pub behind-sets : List ℕ
  pub tag_read : num s ≡ got tag behind-tag
  pub sets-read : read_sets scopes behind-tag ≡ got sets behind-sets
  pub number_read : num behind-sets ≡ got n rest

pub record FrontHere (image : List ℕ) (at scopes : ℕ) : Type 0 where
  pub place : Within image at
  pub few : scopes ≤ set_scopes
  pub tag : ℕ
  pub sets : m.Sets
  pub n : ℕ
  pub rest : List ℕ
  pub is : ObjectFront scopes (drop at image) tag sets n rest

pub record FrontIs (image : List ℕ) (at tag : ℕ) (sets : Sets) (number past : ℕ) (tag₀ : ℕ) (sets₀ : m.Sets) (n₀ : ℕ) (rest : List ℕ) : Type 0 where
  pub tag_is : tag ≡ tag₀
  pub sets-are : sets_of sets ≡ sets₀
  pub number_is : number ≡ n₀
  pub left : Left image (at + 1) past rest

pub record FrontRead (image : List ℕ) (at scopes tag : ℕ) (sets : Sets) (number past : ℕ) : Type 0 where
  pub means : (tag₀ : ℕ) (sets₀ : m.Sets) (n₀ : ℕ) (rest : List ℕ) → ObjectFront scopes (drop at image) tag₀ sets₀ n₀ rest
      → FrontIs image at tag sets number past tag₀ sets₀ n₀ rest
