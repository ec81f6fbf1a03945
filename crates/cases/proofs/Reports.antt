-- Request T-13, cases worked out by hand, from a file to its report.
use mathlib.Core.Path.{◌≡◌, refl}
use Prim.Native.Nat.{ℕ, ◌+◌}
use mathlib.Core.Option.{none, some}
use mathlib.Core.List.{List, [], ◌∷◌, ◌++◌}
use lib.ListN.{replicate}
use Rattle.requests.specs.Report.{images_of, report}
use Rattle.cases.proofs.Images.{given_1, given_7}

-- ---- notation

-- `code` and two numbers of one digit
abbrev code : ℕ → ℕ → List ℕ
code c n = 99 ∷ 111 ∷ 100 ∷ 101 ∷ 32 ∷ (48 + c) ∷ 32 ∷ (48 + n) ∷ 10 ∷ []

-- `units` and the digits of a number
abbrev units : List ℕ → List ℕ
units digits = 117 ∷ 110 ∷ 105 ∷ 116 ∷ 115 ∷ 32 ∷ digits ++ 10 ∷ []

-- `mean` and two numbers of one digit, or `none`
abbrev mean : ℕ → ℕ → List ℕ
mean q r = 109 ∷ 101 ∷ 97 ∷ 110 ∷ 32 ∷ (48 + q) ∷ 32 ∷ (48 + r) ∷ 10 ∷ []

abbrev no_mean : List ℕ
no_mean = 109 ∷ 101 ∷ 97 ∷ 110 ∷ 32 ∷ 110 ∷ 111 ∷ 110 ∷ 101 ∷ 10 ∷ []

abbrev cut : List ℕ
cut = 99 ∷ 117 ∷ 116 ∷ 10 ∷ []

-- (lambda x x), 27 bytes, takes 8 units; x alone, 14 bytes, is code 7 after 2
abbrev function : List ℕ
function = 27 ∷ given_7

abbrev alone : List ℕ
alone = 14 ∷ given_1

-- ---- whole files

no-file : report [] ≡ units (48 ∷ []) ++ no_mean
unfolding report
no-file = refl

one-image : report function ≡ code 0 1 ++ units (56 ∷ []) ++ mean 8 0
unfolding report
one-image = refl

-- a length of 0 is an image of no bytes
no_bytes : report (0 ∷ []) ≡ code 1 1 ++ units (48 ∷ []) ++ mean 0 0
unfolding report
no_bytes = refl

-- codes ascend, whatever the order of the images; 18 units are 4 for each of 4 images, and 2 are left
four_images : report (alone ++ function ++ 0 ∷ function) ≡ code 0 2 ++ code 1 1 ++ code 7 1 ++ units (49 ∷ 56 ∷ []) ++ mean 4 2
unfolding report
four_images = refl

-- an image of 65,537 bytes is code 2 with no units, and the images behind it count
too_long_lem : report (129 ∷ 128 ∷ 4 ∷ replicate 65537 0 ++ function) ≡ code 0 1 ++ code 2 1 ++ units (56 ∷ []) ++ mean 4 0
unfolding report
too_long_lem = refl

-- ---- files that are cut

-- what came before is not told
cut-image : report (function ++ 28 ∷ given_7) ≡ cut
unfolding report
cut-image = refl

cut-length : report (function ++ 128 ∷ []) ≡ cut
unfolding report
cut-length = refl

long_form : report (function ++ 128 ∷ 0 ∷ []) ≡ cut
unfolding report
long_form = refl

-- 4,294,967,295, and one more
longest_length : report (function ++ 255 ∷ 255 ∷ 255 ∷ 255 ∷ 15 ∷ []) ≡ cut
unfolding report
longest_length = refl

over_longest : report (function ++ 128 ∷ 128 ∷ 128 ∷ 128 ∷ 16 ∷ []) ≡ cut
unfolding report
over_longest = refl

-- ---- how a file falls into images

divided : images_of (2 ∷ 7 ∷ 8 ∷ 0 ∷ 1 ∷ 9 ∷ []) ≡ some ((7 ∷ 8 ∷ []) ∷ [] ∷ (9 ∷ []) ∷ [])
unfolding images_of
divided = refl

not-divided : images_of (2 ∷ 7 ∷ 8 ∷ 0 ∷ 2 ∷ 9 ∷ []) ≡ none
unfolding images_of
not-divided = refl
