-- Request T-02, cases worked out by hand, from image and recording to answer and lines.
use mathlib.Core.Path.{◌≡◌, refl}
use Prim.Native.Nat.{ℕ}
use mathlib.Core.List.{List, [], ◌∷◌, ◌++◌}
use lib.ListN.{replicate, drop}
use Rattle.model.specs.Trees.{Tree, var, tnil}
use Rattle.model.specs.Writing.{tree_image_bytes}
use Rattle.requests.specs.ScanJob.{scan_job, ScanResult}
use Rattle.cases.proofs.PanelPrograms.{image, ◌▹◌, at, bit, all, out, set, latch, three}

-- ---- notation: thirty bytes are lent, all 7

abbrev lent : List ℕ
lent = replicate 30 7

abbrev scanned : Tree → List ℕ → ScanResult
scanned t recording = scan_job (image t) recording lent

abbrev stops : ℕ → ScanResult
stops c = record { answer = record { code = c; units = 0; name = 0; len = 0; first = 0; second = 0 }; output = lent }

abbrev prints : ℕ → List ℕ → ScanResult
prints n l = record { answer = record { code = 0; units = 0; name = 0; len = n; first = 0; second = 0 }; output = l ++ drop n lent }

-- `@12=0`, `@12=1`, `@8=1` .. with the space before it
abbrev p12=0 : List ℕ
p12=0 = 32 ∷ 64 ∷ 49 ∷ 50 ∷ 61 ∷ 48 ∷ []

abbrev p12=1 : List ℕ
p12=1 = 32 ∷ 64 ∷ 49 ∷ 50 ∷ 61 ∷ 49 ∷ []

abbrev p8=1 : List ℕ
p8=1 = 32 ∷ 64 ∷ 56 ∷ 61 ∷ 49 ∷ []

abbrev p9=0 : List ℕ
p9=0 = 32 ∷ 64 ∷ 57 ∷ 61 ∷ 48 ∷ []

abbrev p9=1 : List ℕ
p9=1 = 32 ∷ 64 ∷ 57 ∷ 61 ∷ 49 ∷ []

-- the lines of two scans, and of three
abbrev two : List ℕ → List ℕ → List ℕ
two a b = 49 ∷ a ++ 10 ∷ 50 ∷ b ++ 10 ∷ []

abbrev lines : List ℕ → List ℕ → List ℕ → List ℕ
lines a b c = two a b ++ 51 ∷ c ++ 10 ∷ []

-- ---- what one sees

-- press 1; let it go, and the latch holds; press 2, and what it drives falls off
latch_holds : scanned latch (3 ∷ 1 ∷ 1 ∷ 1 ∷ 1 ∷ 1 ∷ 0 ∷ 1 ∷ 2 ∷ 1 ∷ []) ≡ prints 24 (lines p12=1 p12=1 p12=0)
unfolding scan_job tree_image_bytes
latch_holds = refl

no-scans : scanned latch (0 ∷ []) ≡ prints 0 []
unfolding scan_job tree_image_bytes
no-scans = refl

-- no driven point: the number alone
numbers-alone : scanned (bit 4 0 (set (var 4) (at 1))) (3 ∷ 0 ∷ 0 ∷ 0 ∷ []) ≡ prints 6 (lines [] [] [])
unfolding scan_job tree_image_bytes
numbers-alone = refl

-- a bit that is set is seen by every later rung at once, and by an earlier one in the next scan
set_seen_at_once : scanned (bit 4 0 (all (set (var 4) (at 1) ▹ out (at 9) (var 4) ▹ tnil))) (2 ∷ 1 ∷ 1 ∷ 1 ∷ 0 ∷ []) ≡ prints 14 (two p9=1 p9=1)
unfolding scan_job tree_image_bytes
set_seen_at_once = refl

set_seen_later : scanned (bit 4 0 (all (out (at 9) (var 4) ▹ set (var 4) (at 1) ▹ tnil))) (2 ∷ 1 ∷ 1 ∷ 1 ∷ 0 ∷ []) ≡ prints 14 (two p9=0 p9=1)
unfolding scan_job tree_image_bytes
set_seen_later = refl

-- a driven point likewise; lines go by points, whatever the order of the rungs
out_seen_at_once : scanned (all (out (at 8) (at 1) ▹ out (at 9) (at 8) ▹ tnil)) (2 ∷ 1 ∷ 1 ∷ 1 ∷ 0 ∷ []) ≡ prints 24 (two (p8=1 ++ p9=1) (p8=1 ++ p9=1))
unfolding scan_job tree_image_bytes
out_seen_at_once = refl

out_seen_later : scanned (all (out (at 9) (at 8) ▹ out (at 8) (at 1) ▹ tnil)) (2 ∷ 1 ∷ 1 ∷ 1 ∷ 0 ∷ []) ≡ prints 24 (two (p8=1 ++ p9=0) (p8=1 ++ p9=1))
unfolding scan_job tree_image_bytes
out_seen_later = refl

-- a bit starts at its start value, a point at 0
starts_at_one : scanned (bit 4 1 (all (out (at 9) (var 4) ▹ set (var 4) (at 1) ▹ tnil))) (2 ∷ 0 ∷ 0 ∷ []) ≡ prints 14 (two p9=1 p9=0)
unfolding scan_job tree_image_bytes
starts_at_one = refl

-- of two bits with one name the inner one is read: `@0=1`
inner_bit : scanned three (1 ∷ 0 ∷ []) ≡ prints 7 (49 ∷ 32 ∷ 64 ∷ 48 ∷ 61 ∷ 49 ∷ 10 ∷ [])
unfolding scan_job tree_image_bytes
inner_bit = refl

-- point 1,023 is the last
last-point : scanned (out (at 9) (at 1023)) (2 ∷ 1 ∷ 255 ∷ 7 ∷ 1 ∷ 1 ∷ 255 ∷ 7 ∷ 0 ∷ []) ≡ prints 14 (two p9=1 p9=0)
unfolding scan_job tree_image_bytes
last-point = refl

-- 20 where the lines are longer than what is lent
one_byte_short : scan_job (image (out (at 9) (at 1))) (2 ∷ 0 ∷ 0 ∷ []) (replicate 13 7) ≡ record { answer = record { code = 20; units = 0; name = 0; len = 0; first = 0; second = 0 }; output = replicate 13 7 }
unfolding scan_job tree_image_bytes
one_byte_short = refl

-- ---- 24

empty : scanned latch [] ≡ stops 24
unfolding scan_job tree_image_bytes
empty = refl

long_form : scanned latch (128 ∷ 0 ∷ []) ≡ stops 24
unfolding scan_job tree_image_bytes
long_form = refl

falling : scanned latch (1 ∷ 2 ∷ 2 ∷ 1 ∷ 1 ∷ 1 ∷ []) ≡ stops 24
unfolding scan_job tree_image_bytes
falling = refl

same_point : scanned latch (1 ∷ 2 ∷ 1 ∷ 1 ∷ 1 ∷ 0 ∷ []) ≡ stops 24
unfolding scan_job tree_image_bytes
same_point = refl

no_such_point : scanned latch (1 ∷ 1 ∷ 128 ∷ 8 ∷ 1 ∷ []) ≡ stops 24
unfolding scan_job tree_image_bytes
no_such_point = refl

value-two : scanned latch (1 ∷ 1 ∷ 1 ∷ 2 ∷ []) ≡ stops 24
unfolding scan_job tree_image_bytes
value-two = refl

left_over : scanned latch (0 ∷ 0 ∷ []) ≡ stops 24
unfolding scan_job tree_image_bytes
left_over = refl

ends_early : scanned latch (1 ∷ 1 ∷ 2 ∷ []) ≡ stops 24
unfolding scan_job tree_image_bytes
ends_early = refl

-- 65,534 scans without a change: one byte too many
too_long_lem : scanned latch (254 ∷ 255 ∷ 3 ∷ replicate 65534 0) ≡ stops 24
unfolding scan_job tree_image_bytes
too_long_lem = refl

-- ---- 25, after 24, and both after T-01's

names-driven : scanned latch (2 ∷ 1 ∷ 1 ∷ 1 ∷ 1 ∷ 12 ∷ 1 ∷ []) ≡ stops 25
unfolding scan_job tree_image_bytes
names-driven = refl

driven_and_broken : scanned latch (2 ∷ 1 ∷ 12 ∷ 1 ∷ 1 ∷ 1 ∷ 2 ∷ []) ≡ stops 24
unfolding scan_job tree_image_bytes
driven_and_broken = refl

outside_and_broken : scanned (at 3) [] ≡ stops 21
unfolding scan_job tree_image_bytes
outside_and_broken = refl

twice_and_broken : scanned (all (out (at 3) (at 1) ▹ out (at 3) (at 2) ▹ tnil)) [] ≡ stops 22
unfolding scan_job tree_image_bytes
twice_and_broken = refl
