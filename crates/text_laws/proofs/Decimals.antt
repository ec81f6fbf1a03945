-- Decimal numbers: the digits of a number make that number, have no leading zero, and are what was written.
use mathlib.Core.Path.{◌≡◌, refl, sym, ap, ◌∙◌}
use Prim.Native.Nat.{ℕ, zero, suc, ◌+◌, ◌-◌, ◌*◌, ◌/◌, ◌%◌, ◌^◌, ◌≤◌, ◌<◌}
use native.Mathlib.Omega.{arith}
use native.Mathlib.Nat.{div-add-mod', le_refl, le_trans, lt_of_le_of_lt}
use mathlib.Core.Bool.{Bool, true, false, not, ◌&&◌, false≢true}
use mathlib.Core.List.{List, [], ◌∷◌, ◌++◌, append-nil}
use mathlib.Core.Logic.{◌≢◌}
use lib.Dec.{eqb, ltb, leb}
use lib.ListN.{length}
use Rattle.model.specs.Choice.{when◌then◌else◌}
use Rattle.model.specs.Jobs.{digits}
use borrow.Author.Tests.{le-leb, lt-ltb, le-ltb, ne_eqb, leb-true, ltb-true, ltb-false, eqb-false}
use Rattle.laws.proofs.Tests.{and_both}
use Rattle.requests.specs.Tokens.{digit, all_digits, numeral, value}

-- ---- the number that the digits make

pub digits_value : (k n : ℕ) (after : List ℕ) → n < 10 ^ k → value 0 (digits k n after) ≡ value n after
unfolding digits value
digits_value zero n after h = ap (λ (z : ℕ). value z after) (omega arith)
digits_value (suc k) n after h = go (ltb n 10) refl (digits_value k (n / 10) ((48 + n % 10) ∷ after))
  where
    go : (t : Bool) → ltb n 10 ≡ t → (n / 10 < 10 ^ k → value 0 (digits k (n / 10) ((48 + n % 10) ∷ after)) ≡ value (n / 10) ((48 + n % 10) ∷ after))
        → value 0 (when t then (48 + n) ∷ after else digits k (n / 10) ((48 + n % 10) ∷ after)) ≡ value n after
    go true e below = ap (λ (z : ℕ). value z after) (omega arith)
    go false e below =
        below (omega arith)
        ∙ ap (λ (z : ℕ). value z after) (omega (arith, div-add-mod' n 10))

-- ---- no leading zero

pub digit-is : (b : ℕ) → 48 ≤ b → b ≤ 57 → digit b ≡ true
unfolding digit
digit-is b p q = rw (le-leb 48 b p, le-leb b 57 q)

led : (b : ℕ) (l : List ℕ) → 49 ≤ b → b ≤ 57 → all_digits l ≡ true → numeral (b ∷ l) ≡ true
unfolding numeral
led b [] p q e = digit-is b (omega arith) q
led b (c ∷ l) p q e = rw (digit-is b (omega arith) q, ne_eqb b 48 (λ z. omega arith)) e

all_cons : (b : ℕ) (l : List ℕ) → 48 ≤ b → b ≤ 57 → all_digits l ≡ true → all_digits (b ∷ l) ≡ true
unfolding all_digits
all_cons b l p q e = rw (digit-is b p q) e

pub digits-numeral : (k n : ℕ) (after : List ℕ) → 1 ≤ n → n < 10 ^ k → all_digits after ≡ true → numeral (digits k n after) ≡ true
unfolding digits
digits-numeral zero n after p h a = absurd (none p h)
  where
    none : 1 ≤ n → n < 1 → ⊥
    none x y = omega arith
digits-numeral (suc k) n after p h a = go (ltb n 10) refl (digits-numeral k (n / 10) ((48 + n % 10) ∷ after))
  where
    go : (t : Bool) → ltb n 10 ≡ t
        → (1 ≤ n / 10 → n / 10 < 10 ^ k → all_digits ((48 + n % 10) ∷ after) ≡ true → numeral (digits k (n / 10) ((48 + n % 10) ∷ after)) ≡ true)
        → numeral (when t then (48 + n) ∷ after else digits k (n / 10) ((48 + n % 10) ∷ after)) ≡ true
    go true e below = led (48 + n) after (omega arith) (omega (arith, ltb-true n 10 e)) a
    go false e below =
        below (omega (arith, ltb-false n 10 e)) (omega arith)
        (all_cons (48 + n % 10) after (omega arith) (omega arith) a)

pub written-numeral : (n : ℕ) → n < 4294967296 → numeral (digits 10 n []) ≡ true
unfolding digits numeral digit all_digits
written-numeral zero h = refl
written-numeral (suc n) h = digits-numeral 10 (suc n) [] (omega arith) (omega arith) refl

pub written-value : (n : ℕ) → n < 4294967296 → value 0 (digits 10 n []) ≡ n
unfolding value
written-value n h = digits_value 10 n [] (omega arith)

-- ---- every byte of it is a digit

pub digits-all : (k n : ℕ) (after : List ℕ) → all_digits after ≡ true → all_digits (digits k n after) ≡ true
unfolding digits
digits-all zero n after a = a
digits-all (suc k) n after a =
    go (ltb n 10) refl (digits-all k (n / 10) ((48 + n % 10) ∷ after) (all_cons (48 + n % 10) after (omega arith) (omega arith) a))
  where
    go : (t : Bool) → ltb n 10 ≡ t → all_digits (digits k (n / 10) ((48 + n % 10) ∷ after)) ≡ true
        → all_digits (when t then (48 + n) ∷ after else digits k (n / 10) ((48 + n % 10) ∷ after)) ≡ true
    go true e below = all_cons (48 + n) after (omega arith) (omega (arith, ltb-true n 10 e)) a
    go false e below = below

-- ---- the digits of the number that a numeral makes are the numeral

unfoldable grow : List ℕ → ℕ → ℕ
grow [] j = j
grow (b ∷ l) j = grow l (suc j)

grow_sum : (l : List ℕ) (j : ℕ) → grow l j ≡ length l + j
unfolding grow
grow_sum [] j = omega arith
grow_sum (b ∷ l) j = grow_sum l (suc j) ∙ omega arith

digit_range : (b : ℕ) → digit b ≡ true → (48 ≤ b) × (b ≤ 57)
unfolding digit
digit_range b e =
    let a = and_both (leb 48 b) (leb b 57) e in
    (leb-true 48 b a.0, leb-true b 57 a.1)

last-digit : (j n b : ℕ) (after : List ℕ) → 1 ≤ n → 48 ≤ b → b ≤ 57 → digits (suc j) (n * 10 + (b - 48)) after ≡ digits j n (b ∷ after)
unfolding digits
last-digit j n b after h p q =
    rw (le-ltb (n * 10 + (b - 48)) 10 (omega arith))
    (ap (λ (z : ℕ). digits j z ((48 + (n * 10 + (b - 48)) % 10) ∷ after)) (front n (b - 48) (omega arith))
    ∙ ap (λ (z : ℕ). digits j n (z ∷ after)) (back n b p q))
  where
    front : (n d : ℕ) → d ≤ 9 → (n * 10 + d) / 10 ≡ n
    front n d h = omega arith

    back : (n b : ℕ) → 48 ≤ b → b ≤ 57 → 48 + (n * 10 + (b - 48)) % 10 ≡ b
    back n b p q = omega arith

digits-strip : (l : List ℕ) (j n : ℕ) (after : List ℕ) → 1 ≤ n → all_digits l ≡ true → digits (grow l j) (value n l) after ≡ digits j n (l ++ after)
unfolding grow value all_digits
digits-strip [] j n after h e = refl
digits-strip (b ∷ l) j n after h e =
    let a = and_both (digit b) (all_digits l) e in
    let r = digit_range b a.0 in
    digits-strip l (suc j) (n * 10 + (b - 48)) after (omega arith) a.1 ∙ last-digit j n b (l ++ after) h r.0 r.1

unfoldable shift : List ℕ → ℕ → ℕ
shift [] k = k
shift (b ∷ l) k = shift l (k * 10)

shift_le : (l : List ℕ) (k n : ℕ) → k ≤ n → shift l k ≤ value n l
unfolding shift value
shift_le [] k n h = h
shift_le (b ∷ l) k n h = shift_le l (k * 10) (n * 10 + (b - 48)) (omega arith)

shift_more : (l : List ℕ) (k : ℕ) → k ≤ shift l k
unfolding shift
shift_more [] k = le_refl k
shift_more (b ∷ l) k = le_trans (more k) (shift_more l (k * 10))
  where
    more : (k : ℕ) → k ≤ k * 10
    more k = omega arith

few-digits : (l : List ℕ) → shift l 1 < 4294967296 → length l ≤ 9
unfolding shift
few-digits [] h = omega arith
few-digits (a ∷ []) h = omega arith
few-digits (a ∷ b ∷ []) h = omega arith
few-digits (a ∷ b ∷ c ∷ []) h = omega arith
few-digits (a ∷ b ∷ c ∷ d ∷ []) h = omega arith
few-digits (a ∷ b ∷ c ∷ d ∷ e ∷ []) h = omega arith
few-digits (a ∷ b ∷ c ∷ d ∷ e ∷ f ∷ []) h = omega arith
few-digits (a ∷ b ∷ c ∷ d ∷ e ∷ f ∷ g ∷ []) h = omega arith
few-digits (a ∷ b ∷ c ∷ d ∷ e ∷ f ∷ g ∷ i ∷ []) h = omega arith
few-digits (a ∷ b ∷ c ∷ d ∷ e ∷ f ∷ g ∷ i ∷ j ∷ []) h = omega arith
few-digits (a ∷ b ∷ c ∷ d ∷ e ∷ f ∷ g ∷ i ∷ j ∷ k ∷ l) h = absurd (over (shift l 10000000000) (shift_more l 10000000000) h)
  where
    over : (n : ℕ) → 10000000000 ≤ n → n < 4294967296 → ⊥
    over n p q = omega arith

one-digit : (j n b : ℕ) (after : List ℕ) → n ≡ b - 48 → 48 ≤ b → b ≤ 57 → digits (suc j) n after ≡ b ∷ after
unfolding digits
one-digit j n b after e p q = rw (lt-ltb n 10 (omega arith)) (ap (λ (z : ℕ). z ∷ after) (omega arith))

pub numeral_back : (w : List ℕ) → numeral w ≡ true → value 0 w < 4294967296 → digits 10 (value 0 w) [] ≡ w
unfolding numeral value
numeral_back [] e h = absurd (false≢true e)
numeral_back (b ∷ []) e h =
    let r = digit_range b e in
    one-digit 9 (0 * 10 + (b - 48)) b [] (omega arith) r.0 r.1
numeral_back (b ∷ c ∷ l) e h =
    let a = and_both (digit b && not (eqb b 48)) (all_digits (c ∷ l)) e in
    let d = and_both (digit b) (not (eqb b 48)) a.0 in
    let r = digit_range b d.0 in
    many b (c ∷ l) r.0 r.1 (nonzero (eqb b 48) refl d.1) a.1 h
  where
    nonzero : (t : Bool) → eqb b 48 ≡ t → not t ≡ true → b ≢ 48
    nonzero true p q = absurd (false≢true q)
    nonzero false p q = eqb-false b 48 p

    many : (b : ℕ) (l : List ℕ) → 48 ≤ b → b ≤ 57 → b ≢ 48 → all_digits l ≡ true → value (0 * 10 + (b - 48)) l < 4294967296
        → digits 10 (value (0 * 10 + (b - 48)) l) [] ≡ b ∷ l
    many b l p q z e h =
        let n : ℕ = 0 * 10 + (b - 48) in
        let some : 1 ≤ 0 * 10 + (b - 48) = omega arith in
        let few : length l ≤ 9 = few-digits l (lt_of_le_of_lt (shift_le l 1 n some) h) in
        let fuel : grow l (suc (9 - length l)) ≡ 10 = grow_sum l (suc (9 - length l)) ∙ omega arith in
        ap (λ (k : ℕ). digits k (value n l) []) (sym fuel)
        ∙ digits-strip l (suc (9 - length l)) n [] some e
        ∙ one-digit (9 - length l) n b (l ++ []) (omega arith) p q
        ∙ ap (λ (t : List ℕ). b ∷ t) (append-nil l)

-- further digits never make a number smaller: code may stop counting past a limit
pub value_grows : (n : ℕ) (l : List ℕ) → n ≤ value n l
unfolding value
value_grows n [] = le_refl n
value_grows n (b ∷ l) = le_trans (more n (b - 48)) (value_grows (n * 10 + (b - 48)) l)
  where
    more : (n d : ℕ) → n ≤ n * 10 + d
    more n d = omega arith
