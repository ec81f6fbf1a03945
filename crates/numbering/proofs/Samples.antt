-- Two samples. (lambda x{1} x{1}) with x{1} bound to 5 and x{2} to 6, and its scopes swapped: the order of the bindings changes, in the image and in
-- the result; code and units do not. And x{1, 3}, ambiguous: the two bindings that T-04 tells stand at other places in the renumbered image.
use mathlib.Core.Path.{◌≡◌, refl, sym, subst}
use Prim.Native.Nat.{ℕ, zero, suc, ◌≤◌}
use native.Mathlib.Omega.{arith}
use mathlib.Core.List.{List, [], ◌∷◌}
use lib.ListN.{length, replicate}
use Rattle.model.specs.Limits.{most_image}
use Rattle.model.specs.Refusals.{ambiguous}
use Rattle.model.specs.Objects.{symbol, Sets, no_sets, Stx, atom, list, nil, cons}
use Rattle.model.specs.Reading.{got, Image, read_syntax, read_image}
use Rattle.model.specs.Jobs.{refused, written, expand_ending, expand_job}
use Rattle.codec_laws.specs.WellFormed.{Bytes}
use Rattle.codec_laws.proofs.Sequence.{all_bytes, all-bytes}
use borrow.Author.Tests.{leb-true}
use Rattle.alike.specs.Renumbering.{SameBut}
use Rattle.numbering.specs.Renumbered.{NumberingRule, extended, renumbered, EnoughOutput}
use Rattle.numbering.proofs.Numbering.{numbering_does_not_matter}

swap : ℕ → ℕ
swap zero = 0
swap (suc zero) = 2
swap (suc (suc k)) = 1

image : List ℕ
image =
    1 ∷ 1 ∷ 1 ∷ 120 ∷ 2 ∷ 2 ∷ 2 ∷ 4 ∷ 5 ∷ 1 ∷ 1 ∷ 4 ∷ 6 ∷ 1 ∷ 2
    ∷ 5 ∷ 0 ∷ 0 ∷ 0 ∷ 3 ∷ 0 ∷ 0 ∷ 0 ∷ 0 ∷ 0 ∷ 0 ∷ 1 ∷ 1 ∷ 0 ∷ 0 ∷ 4 ∷ 0 ∷ 1 ∷ 1 ∷ 0 ∷ 0 ∷ 4 ∷ []

-- x{1} to 6, x{2} to 5
swapped : List ℕ
swapped =
    1 ∷ 1 ∷ 1 ∷ 120 ∷ 2 ∷ 2 ∷ 2 ∷ 4 ∷ 6 ∷ 1 ∷ 1 ∷ 4 ∷ 5 ∷ 1 ∷ 2
    ∷ 5 ∷ 0 ∷ 0 ∷ 0 ∷ 3 ∷ 0 ∷ 0 ∷ 0 ∷ 0 ∷ 0 ∷ 0 ∷ 1 ∷ 2 ∷ 0 ∷ 0 ∷ 4 ∷ 0 ∷ 1 ∷ 2 ∷ 0 ∷ 0 ∷ 4 ∷ []

-- x{1} to 5, x{1, 3} to 7, x{2} to 6
result : List ℕ
result =
    1 ∷ 1 ∷ 1 ∷ 120 ∷ 3 ∷ 3 ∷ 3 ∷ 4 ∷ 5 ∷ 1 ∷ 1 ∷ 4 ∷ 7 ∷ 2 ∷ 1 ∷ 3 ∷ 4 ∷ 6 ∷ 1 ∷ 2
    ∷ 5 ∷ 0 ∷ 0 ∷ 0 ∷ 3 ∷ 0 ∷ 0 ∷ 0 ∷ 0 ∷ 0 ∷ 0 ∷ 2 ∷ 1 ∷ 3 ∷ 0 ∷ 0 ∷ 4 ∷ 0 ∷ 2 ∷ 1 ∷ 3 ∷ 0 ∷ 0 ∷ 4 ∷ []

-- x{1} to 6, x{2} to 5, x{2, 3} to 7
other : List ℕ
other =
    1 ∷ 1 ∷ 1 ∷ 120 ∷ 3 ∷ 3 ∷ 3 ∷ 4 ∷ 6 ∷ 1 ∷ 1 ∷ 4 ∷ 5 ∷ 1 ∷ 2 ∷ 4 ∷ 7 ∷ 2 ∷ 2 ∷ 3
    ∷ 5 ∷ 0 ∷ 0 ∷ 0 ∷ 3 ∷ 0 ∷ 0 ∷ 0 ∷ 0 ∷ 0 ∷ 0 ∷ 2 ∷ 2 ∷ 3 ∷ 0 ∷ 0 ∷ 4 ∷ 0 ∷ 2 ∷ 2 ∷ 3 ∷ 0 ∷ 0 ∷ 4 ∷ []

renumbers : renumbered (extended 2 swap) image ≡ swapped
unfolding renumbered extended swap image swapped
renumbers = refl

expands : expand_ending image 0 1024 65536 ≡ written result 8
unfolding expand_ending image result
expands = refl

expands_alike : expand_ending swapped 0 1024 65536 ≡ written other 8
unfolding expand_ending swapped other
expands_alike = refl

result_alike : renumbered (extended 2 swap) result ≡ other
unfolding renumbered extended swap result other
result_alike = refl

-- ---- the theorem applies

swap_some : (k : ℕ) → 1 ≤ k → k ≤ 2 → 1 ≤ swap k
unfolding swap
swap_some zero h i = h
swap_some (suc zero) h i = omega arith
swap_some (suc (suc k)) h i = omega arith

swap_most : (k : ℕ) → 1 ≤ k → k ≤ 2 → swap k ≤ 2
unfolding swap
swap_most zero h i = omega arith
swap_most (suc zero) h i = omega arith
swap_most (suc (suc k)) h i = omega arith

swap_one : (j k : ℕ) → 1 ≤ j → j ≤ 2 → 1 ≤ k → k ≤ 2 → swap j ≡ swap k → j ≡ k
unfolding swap
swap_one zero k a b c d e = absurd (no a)
  where
    no : 1 ≤ 0 → ⊥
    no h = omega arith
swap_one (suc j) zero a b c d e = absurd (no c)
  where
    no : 1 ≤ 0 → ⊥
    no h = omega arith
swap_one (suc zero) (suc zero) a b c d e = refl
swap_one (suc zero) (suc (suc k)) a b c d e = absurd (no e)
  where
    no : ◌≡◌ {A = ℕ} 2 1 → ⊥
    no h = omega arith
swap_one (suc (suc j)) (suc zero) a b c d e = absurd (no e)
  where
    no : ◌≡◌ {A = ℕ} 1 2 → ⊥
    no h = omega arith
swap_one (suc (suc j)) (suc (suc k)) a b c d e = omega arith

swap_rule : NumberingRule 2 swap
swap_rule = record { from_one = swap_some; up_to_lem = swap_most; one_to_one = swap_one }

meant : Image Stx
meant = record {
  head = record { words = (120 ∷ []) ∷ []; names = 7; scopes = 2 };
  binds = record { symb = 4; target = 5; set = 1 } ∷ record { symb = 4; target = 6; set = 2 } ∷ [];
  root = list no_sets (cons (atom no_sets (symbol 0)) (cons (atom only_1 (symbol 4)) (cons (atom only_1 (symbol 4)) nil)));
}
  where
    only_1 : Sets
    only_1 = record { at0 = 1; at1 = 0; at2 = 0 }

reads : read_image read_syntax image ≡ got meant []
unfolding read_image read_syntax image meant no_sets
reads = refl

image-bytes : Bytes image
unfolding all_bytes image
image-bytes = all-bytes image refl

table : List ℕ
table = replicate 640 0

output : List ℕ
output = replicate 64 0

not-long : EnoughOutput (expand_job image 0 16 table output) × EnoughOutput (expand_job swapped 0 16 table output)
unfolding expand_job image swapped table output
not-long = (no, no)
  where
    no : ◌≡◌ {A = ℕ} 0 20 → ⊥
    no e = omega arith

within_limits : length swapped ≤ most_image
unfolding swapped most_image
within_limits = leb-true 37 65536 refl

applies : SameBut (renumbered (extended 2 swap)) (expand_job image 0 16 table output) (expand_job swapped 0 16 table output)
unfolding meant
applies =
    subst (λ (w : List ℕ). SameBut (renumbered (extended 2 swap)) (expand_job image 0 16 table output) (expand_job w 0 16 table output)) renumbers
    (numbering_does_not_matter image [] meant image-bytes reads swap swap_rule
    (subst (λ (w : List ℕ). length w ≤ most_image) (sym renumbers) within_limits) 0 16 table output output not-long.0
    (subst (λ (w : List ℕ). EnoughOutput (expand_job w 0 16 table output)) (sym renumbers) not-long.1))

-- ---- who competes goes by image order, so it is left out of what agrees

-- scopes 2 and 3 swapped
swap_last : ℕ → ℕ
swap_last zero = 0
swap_last (suc zero) = 1
swap_last (suc (suc zero)) = 3
swap_last (suc (suc (suc k))) = 2

-- x{1}, x{2} and x{3} bound to 5, 6 and 7; the root is x{1, 3}: the first and the third compete
unclear : List ℕ
unclear = 1 ∷ 1 ∷ 1 ∷ 120 ∷ 3 ∷ 3 ∷ 3 ∷ 4 ∷ 5 ∷ 1 ∷ 1 ∷ 4 ∷ 6 ∷ 1 ∷ 2 ∷ 4 ∷ 7 ∷ 1 ∷ 3 ∷ 0 ∷ 2 ∷ 1 ∷ 3 ∷ 0 ∷ 0 ∷ 4 ∷ []

first_and_third : expand_ending unclear 0 1024 65536 ≡ refused ambiguous (record { first = 1; second = 3 }) 2
unfolding expand_ending unclear
first_and_third = refl

first_and_second : expand_ending (renumbered (extended 3 swap_last) unclear) 0 1024 65536 ≡ refused ambiguous (record { first = 1; second = 2 }) 2
unfolding expand_ending renumbered extended swap_last unclear
first_and_second = refl
