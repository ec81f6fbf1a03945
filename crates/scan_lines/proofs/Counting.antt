-- The digits of a number counted, what a line has behind its number, and the numbers of n lines.
use Prim.Native.Nat.{ℕ, zero, suc, ◌+◌, ◌-◌, ◌*◌, ◌/◌, ◌%◌, ◌≤◌, ◌<◌}
use mathlib.Core.Path.{◌≡◌, refl, ap, ◌∙◌, sym}
use mathlib.Core.Bool.{Bool, true, false}
use mathlib.Core.List.{List, [], ◌∷◌}
use native.Mathlib.Omega.{arith}
use native.Mathlib.Nat.{suc-mul, mul-le-mul_right}
use native.Mathlib.Numerals.{add-one}
use mir.Syntax.{w32}
use mir.Val.{Fits}
use lib.Dec.{eqb, ltb}
use lib.ListN.{length, get_or, length-append}
use borrow.Author.Tests.{ltb-true, ltb-false, eq-eqb, ne_eqb}
use Rattle.model.specs.Choice.{when◌then◌else◌}
use Rattle.model.specs.Jobs.{digits}
use Rattle.text.proofs.Decimal.{one-digit, more-digits}
use Rattle.bits.specs.Meeting.{points}
use Rattle.scan_lines.specs.Lines.{marked, marked_places}
use Rattle.scan_lines.specs.Lengths.{most_scans, most_fixed, number_length, places_length, mark_length, fixed_length, lines_length}
use Rattle.scan_lines.proofs.Driven.{marked-first, marked-end}

-- ---- digits

one_of : (k n : ℕ) → n < 10 → length (digits (suc k) n []) ≡ 1
one_of k n h = ap length (one-digit k n h)

more_of : (k n : ℕ) → 10 ≤ n → length (digits (suc k) n []) ≡ suc (length (digits k (n / 10) []))
more_of k n h =
    let e = ap length (more-digits k n h) in let l = length-append (digits k (n / 10) []) ((48 + n % 10) ∷ []) in
    omega arith

two_of : (k n : ℕ) → 10 ≤ n → n < 100 → length (digits (suc (suc k)) n []) ≡ 2
two_of k n h l = more_of (suc k) n h ∙ ap suc (one_of k (n / 10) (omega arith))

three_of : (k n : ℕ) → 100 ≤ n → n < 1000 → length (digits (suc (suc (suc k))) n []) ≡ 3
three_of k n h l = more_of (suc (suc k)) n (omega arith) ∙ ap suc (two_of k (n / 10) (omega arith) (omega arith))

four_of : (k n : ℕ) → 1000 ≤ n → n < 10000 → length (digits (suc (suc (suc (suc k)))) n []) ≡ 4
four_of k n h l = more_of (suc (suc (suc k))) n (omega arith) ∙ ap suc (three_of k (n / 10) (omega arith) (omega arith))

five_of : (k n : ℕ) → 10000 ≤ n → n < 100000 → length (digits (suc (suc (suc (suc (suc k))))) n []) ≡ 5
five_of k n h l = more_of (suc (suc (suc (suc k)))) n (omega arith) ∙ ap suc (four_of k (n / 10) (omega arith) (omega arith))

pub one-long : {n : ℕ} → n < 10 → 1 ≡ number_length n
unfolding number_length
one-long {n} h = sym (one_of 9 n h)

pub two-long : {n : ℕ} → 10 ≤ n → n < 100 → 2 ≡ number_length n
unfolding number_length
two-long {n} h l = sym (two_of 8 n h l)

pub three_long : {n : ℕ} → 100 ≤ n → n < 1000 → 3 ≡ number_length n
unfolding number_length
three_long {n} h l = sym (three_of 7 n h l)

four_long : {n : ℕ} → 1000 ≤ n → n < 10000 → 4 ≡ number_length n
unfolding number_length
four_long {n} h l = sym (four_of 6 n h l)

five_long : {n : ℕ} → 10000 ≤ n → n < 100000 → 5 ≡ number_length n
unfolding number_length
five_long {n} h l = sym (five_of 5 n h l)

-- a point's
pub point_four : {n : ℕ} → 1000 ≤ n → n < points → 4 ≡ number_length n
point_four h l = four_long h (omega arith)

pub ruleset number_laws = (one-long, two-long, three_long, point_four)

-- ---- what a line has behind its number

-- where the marked ones below point i are counted
pub record Counting (marks : List ℕ) (n i : ℕ) : Type 0 where
  pub within : i ≤ points
  pub is : n + places_length (marked (points - i) i marks) ≡ fixed_length marks
  pub few : n ≤ 1 + 8 * i

pub mark_none : {mark : ℕ} (x : ℕ) → mark ≡ 0 → 0 ≡ mark_length mark x
unfolding mark_length
mark_none {mark} x e = rw (eq-eqb mark 0 e)

pub mark_one : {mark n : ℕ} (x : ℕ) → (mark ≡ 0 → ⊥) → n ≡ number_length x → 4 + n ≡ mark_length mark x
unfolding mark_length
mark_one {mark} x m e = rw (ne_eqb mark 0 m) (ap (λ (z : ℕ). 4 + z) e)

pub ruleset mark_laws = (mark_none, mark_one)

first-long : (mark x : ℕ) (l : List ℕ) → places_length (when eqb mark 0 then l else x ∷ l) ≡ mark_length mark x + places_length l
unfolding mark_length places_length
first-long mark x l = by (eqb mark 0)
  where
    by : (t : Bool) → places_length (when t then l else x ∷ l) ≡ (when t then 0 else 4 + number_length x) + places_length l
    by true = omega arith
    by false = refl

-- so a line has room in a buffer of most_fixed bytes and those of its number
four_at_most : (n : ℕ) → n < points → number_length n ≤ 4
four_at_most n h = tens (ltb n 10) refl
  where
    hundreds : (t : Bool) → 10 ≤ n → ltb n 100 ≡ t → number_length n ≤ 4
    hundreds true l e = let d = two-long l (ltb-true n 100 e) in omega arith
    hundreds false l e = thousands (ltb n 1000) (ltb-false n 100 e) refl
      where
        thousands : (t : Bool) → 100 ≤ n → ltb n 1000 ≡ t → number_length n ≤ 4
        thousands true m f = let d = three_long m (ltb-true n 1000 f) in omega arith
        thousands false m f = let d = point_four (ltb-false n 1000 f) h in omega arith

    tens : (t : Bool) → ltb n 10 ≡ t → number_length n ≤ 4
    tens true e = let d = one-long (ltb-true n 10 e) in omega arith
    tens false e = hundreds (ltb n 100) (ltb-false n 10 e) refl

places_few : (c x : ℕ) (marks : List ℕ) → x + c ≤ points → places_length (marked c x marks) ≤ 8 * c
unfolding marked places_length
places_few zero x marks h = omega arith
places_few (suc c) x marks h = by (eqb (get_or marks x 0) 0) (places_few c (suc x) marks (omega arith)) (four_at_most x (omega arith))
  where
    by : (t : Bool) → places_length (marked c (suc x) marks) ≤ 8 * c → number_length x ≤ 4
        → places_length (when t then marked c (suc x) marks else x ∷ marked c (suc x) marks) ≤ 8 * suc c
    by true q f = omega arith
    by false q f = omega arith

pub fixed_few : (marks : List ℕ) → fixed_length marks ≤ most_fixed
unfolding fixed_length marked_places
fixed_few marks = let f = places_few points 0 marks (omega arith) in suc-below f
  where
    suc-below : {n : ℕ} → n ≤ 8192 → suc n ≤ most_fixed
    suc-below q = omega arith

one_more : (n : ℕ) → 1 + n ≡ suc n
one_more n = omega arith

pub counting_begun : {marks : List ℕ} → Counting marks 1 0
unfolding fixed_length marked_places
counting_begun {marks} = record { within = omega arith; is = one_more (places_length (marked points 0 marks)); few = omega arith }

module _ {marks : List ℕ} {n i : ℕ} (w : Counting marks n i) where
  pub counting_more : {d : ℕ} → i < points → d ≡ mark_length (get_or marks i 0) i → d ≤ 8 → Counting marks (n + d) (i + 1)
  counting_more {d} h e l =
      let one = ap places_length (marked-first marks i h) ∙ first-long (get_or marks i 0) i (marked (points - suc i) (suc i) marks) in
      let s = w.is in let f = w.few in
      rw (add-one i) (record { within = h; is = omega arith; few = omega arith })

  pub counted : points ≤ i → n ≡ fixed_length marks
  unfolding places_length
  counted h = let e = ap places_length (marked-end marks i h) in let s = w.is in omega arith

pub ruleset counting_laws = (counting_begun, counting_more, counted)

-- ---- all lines

unfoldable summed : ℕ → ℕ
summed n = n + (n - 9) + (n - 99) + (n - 999) + (n - 9999)

grown : (m b : ℕ) → b ≤ m → suc m - b ≡ (m - b) + 1
grown m b h = omega arith

still : (m b : ℕ) → suc m ≤ b → suc m - b ≡ (m - b) + 0
still m b h = omega arith

sum_of : (m x a b c d a' b' c' d' y₁ y₂ y₃ y₄ : ℕ) → a' ≡ a + y₁ → b' ≡ b + y₂ → c' ≡ c + y₃ → d' ≡ d + y₄ → 1 + y₁ + y₂ + y₃ + y₄ ≡ x
    → suc m + a' + b' + c' + d' ≡ m + a + b + c + d + x
sum_of m x a b c d a' b' c' d' y₁ y₂ y₃ y₄ p q r s e = omega arith

-- one more number, which is above 9, 99, 999 and 9,999 or not
added : (m x y₁ y₂ y₃ y₄ : ℕ) → suc m - 9 ≡ (m - 9) + y₁ → suc m - 99 ≡ (m - 99) + y₂ → suc m - 999 ≡ (m - 999) + y₃ → suc m - 9999 ≡ (m - 9999) + y₄
    → 1 + y₁ + y₂ + y₃ + y₄ ≡ x → summed (suc m) ≡ summed m + x
unfolding summed
added m x y₁ y₂ y₃ y₄ =
    sum_of m x (m - 9) (m - 99) (m - 999) (m - 9999) (suc m - 9) (suc m - 99) (suc m - 999) (suc m - 9999) y₁ y₂ y₃ y₄

summed_more : (m : ℕ) → suc m < 100000 → summed (suc m) ≡ summed m + number_length (suc m)
summed_more m h = tens (ltb (suc m) 10) refl
  where
    last : (t : Bool) → 1000 ≤ suc m → ltb (suc m) 10000 ≡ t → summed (suc m) ≡ summed m + number_length (suc m)
    last true l e =
        let u = ltb-true (suc m) 10000 e in
        added m (number_length (suc m)) 1 1 1 0 (grown m 9 (omega arith)) (grown m 99 (omega arith)) (grown m 999 (omega arith)) (still m 9999 (omega arith)) (four_long l u)
    last false l e =
        let u = ltb-false (suc m) 10000 e in
        added m (number_length (suc m)) 1 1 1 1 (grown m 9 (omega arith)) (grown m 99 (omega arith)) (grown m 999 (omega arith)) (grown m 9999 (omega arith)) (five_long u h)

    thousands : (t : Bool) → 100 ≤ suc m → ltb (suc m) 1000 ≡ t → summed (suc m) ≡ summed m + number_length (suc m)
    thousands true l e =
        let u = ltb-true (suc m) 1000 e in
        added m (number_length (suc m)) 1 1 0 0 (grown m 9 (omega arith)) (grown m 99 (omega arith)) (still m 999 (omega arith)) (still m 9999 (omega arith)) (three_long l u)
    thousands false l e = last (ltb (suc m) 10000) (ltb-false (suc m) 1000 e) refl

    hundreds : (t : Bool) → 10 ≤ suc m → ltb (suc m) 100 ≡ t → summed (suc m) ≡ summed m + number_length (suc m)
    hundreds true l e =
        let u = ltb-true (suc m) 100 e in
        added m (number_length (suc m)) 1 0 0 0 (grown m 9 (omega arith)) (still m 99 (omega arith)) (still m 999 (omega arith)) (still m 9999 (omega arith)) (two-long l u)
    hundreds false l e = thousands (ltb (suc m) 1000) (ltb-false (suc m) 100 e) refl

    tens : (t : Bool) → ltb (suc m) 10 ≡ t → summed (suc m) ≡ summed m + number_length (suc m)
    tens true e =
        let u = ltb-true (suc m) 10 e in
        added m (number_length (suc m)) 0 0 0 0 (still m 9 (omega arith)) (still m 99 (omega arith)) (still m 999 (omega arith)) (still m 9999 (omega arith)) (one-long u)
    tens false e = hundreds (ltb (suc m) 100) (ltb-false (suc m) 10 e) refl

lines_summed : (n m : ℕ) → m + n < 100000 → lines_length (suc m) n 0 + summed m ≡ summed (m + n)
unfolding lines_length
lines_summed zero m h = let e : m + 0 ≡ m = omega arith in rw e (omega arith)
lines_summed (suc n) m h =
    let e : m + suc n ≡ suc m + n = omega arith in
    let one = summed_more m (omega arith) in let others = lines_summed n (suc m) (omega arith) in
    rw e (omega arith)

none_summed : summed 0 ≡ 0
unfolding summed
none_summed = refl

numbers_summed : (n : ℕ) → n < most_scans → summed n ≡ lines_length 1 n 0
numbers_summed n h =
    let z : 0 + n ≡ n = omega arith in let e = rw z at (lines_summed n 0 (omega arith)) in let nothing = none_summed in
    omega arith

pub numbers-are : (n : ℕ) {two three four five : ℕ} → n < most_scans → two ≡ n - 9 → three ≡ n - 99 → four ≡ n - 999 → five ≡ n - 9999
    → n + two + three + four + five ≡ lines_length 1 n 0
unfolding summed
numbers-are n {two} {three} {four} {five} h a b c d = rw (a, b, c, d) (numbers_summed n h)

fixed_apart : (n k fixed : ℕ) → lines_length k n fixed ≡ n * fixed + lines_length k n 0
unfolding lines_length
fixed_apart zero k fixed = omega arith
fixed_apart (suc n) k fixed = let e = fixed_apart n (suc k) fixed in let m = suc-mul n fixed in omega arith

product_few : (n fixed : ℕ) → n < most_scans → fixed ≤ most_fixed → n * fixed ≤ most_scans * most_fixed
product_few n fixed h l = let m : n * fixed ≤ most_scans * fixed = mul-le-mul_right fixed (omega arith) in omega arith

pub product_fits : (n fixed : ℕ) → n < most_scans → fixed ≤ most_fixed → Fits w32 (n * fixed)
product_fits n fixed h l = let m = product_few n fixed h l in omega arith

pub total_fits : (n fixed numbers : ℕ) → n < most_scans → fixed ≤ most_fixed → numbers ≤ 5 * most_scans → Fits w32 (n * fixed + numbers)
total_fits n fixed numbers h l f = let m = product_few n fixed h l in omega arith

pub total_is : (n fixed : ℕ) {numbers : ℕ} → numbers ≡ lines_length 1 n 0 → n * fixed + numbers ≡ lines_length 1 n fixed
total_is n fixed e = let a = fixed_apart n 1 fixed in omega arith

pub ruleset total_laws = (numbers-are, product_fits, total_fits, total_is)
