-- The laws of scope sets, all by their members.
use mathlib.Core.Path.{◌≡◌, refl, sym, ap, ap₂, ◌∙◌}
use Prim.Native.Nat.{ℕ, zero, suc, ◌+◌, ◌*◌, ◌/◌, ◌%◌, ◌^◌, ◌<◌, min, max}
use native.Mathlib.Nat.{not-suc-le-zero, le_of_suc-le-suc, zero-lt-suc, div-add-mod', mod-lt, mul-mod_left, mul-div_cancel, pow-suc, le_refl}
use mathlib.Core.Bool.{Bool, true, false, not, ◌&&◌, ◌||◌, xor, true≢false, false≢true}
use lib.Dec.{eqb, eqb-zero-suc, eqb-suc-zero, eqb-suc-suc}
use lib.Arith.{bin_ind, digits_div, digits_mod}
use borrow.Author.Tests.{eqb-true, eq-eqb}
use lib.Bits.{bit_and, bit_or, bit_xor, differ, and_step, or_step, xor_step}
use Rattle.model.specs.Choice.{when◌then◌else◌}
use Rattle.model.specs.Scopes.{Scopes, digit, has, only, add, flip, prune, within}
use Rattle.laws.proofs.Tests.{or_left, or_right, same_test}

two_pos : zero < 2
two_pos = zero-lt-suc 1

-- ---- a digit is 0 or 1

by_bit {ℓ} : (P : ℕ → Type ℓ) → P 0 → P 1 → (x : ℕ) → x < 2 → P x
by_bit P p q zero h = p
by_bit P p q (suc zero) h = q
by_bit P p q (suc (suc x)) h = absurd (not-suc-le-zero (le_of_suc-le-suc (le_of_suc-le-suc h)))

-- a law of two digits, from the four cases
by_bits {ℓ} : (P : ℕ → ℕ → Type ℓ) → P 0 0 → P 0 1 → P 1 0 → P 1 1 → (x y : ℕ) → x < 2 → y < 2 → P x y
by_bits P a b c d x y hx hy = by_bit (λ u. P u y) (by_bit (λ v. P 0 v) a b y hy) (by_bit (λ v. P 1 v) c d y hy) x hx

-- ---- the digits of an operation that works digit by digit

record Digitwise (op f : ℕ → ℕ → ℕ) (g : Bool → Bool → Bool) : Type 0 where
  step : (a b : ℕ) → op a b ≡ op (a / 2) (b / 2) * 2 + f (a % 2) (b % 2)
  small : (x y : ℕ) → x < 2 → y < 2 → f x y < 2
  one : (x y : ℕ) → x < 2 → y < 2 → eqb (f x y) 1 ≡ g (eqb x 1) (eqb y 1)

module _ (op f : ℕ → ℕ → ℕ) (g : Bool → Bool → Bool) (w : Digitwise op f g) where
  low_small : (a b : ℕ) → f (a % 2) (b % 2) < 2
  low_small a b = w.small (a % 2) (b % 2) (mod-lt a two_pos) (mod-lt b two_pos)

  op_half : (a b : ℕ) → op a b / 2 ≡ op (a / 2) (b / 2)
  op_half a b = ap (λ (x : ℕ). x / 2) (w.step a b) ∙ digits_div (op (a / 2) (b / 2)) (low_small a b)

  op_low : (a b : ℕ) → op a b % 2 ≡ f (a % 2) (b % 2)
  op_low a b = ap (λ (x : ℕ). x % 2) (w.step a b) ∙ digits_mod (op (a / 2) (b / 2)) (low_small a b)

  digit_op : (k a b : ℕ) → digit k (op a b) ≡ g (digit k a) (digit k b)
  unfolding digit
  digit_op zero a b =
      ap (λ (x : ℕ). eqb x 1) (op_low a b) ∙ w.one (a % 2) (b % 2) (mod-lt a two_pos) (mod-lt b two_pos)
  digit_op (suc k) a b = ap (digit k) (op_half a b) ∙ digit_op k (a / 2) (b / 2)

and_digitwise : Digitwise bit_and min ◌&&◌
and_digitwise = record {
  step = and_step;
  small = by_bits (λ x y. min x y < 2) two_pos two_pos two_pos (le_refl 2);
  one = by_bits (λ x y. eqb (min x y) 1 ≡ (eqb x 1 && eqb y 1)) refl refl refl refl;
}

or_digitwise : Digitwise bit_or max ◌||◌
or_digitwise = record {
  step = or_step;
  small = by_bits (λ x y. max x y < 2) two_pos (le_refl 2) (le_refl 2) (le_refl 2);
  one = by_bits (λ x y. eqb (max x y) 1 ≡ (eqb x 1 || eqb y 1)) refl refl refl refl;
}

xor_digitwise : Digitwise bit_xor differ xor
unfolding xor
xor_digitwise = record {
  step = xor_step;
  small = by_bits (λ x y. differ x y < 2) two_pos (le_refl 2) (le_refl 2) two_pos;
  one = by_bits (λ x y. eqb (differ x y) 1 ≡ xor (eqb x 1) (eqb y 1)) refl refl refl refl;
}

pub digit_and : (k a b : ℕ) → digit k (bit_and a b) ≡ (digit k a && digit k b)
digit_and = digit_op bit_and min ◌&&◌ and_digitwise

digit_or : (k a b : ℕ) → digit k (bit_or a b) ≡ (digit k a || digit k b)
digit_or = digit_op bit_or max ◌||◌ or_digitwise

pub digit-xor : (k a b : ℕ) → digit k (bit_xor a b) ≡ xor (digit k a) (digit k b)
digit-xor = digit_op bit_xor differ xor xor_digitwise

-- ---- the digits of 0 and of a power of two

pub digit-zero : (k : ℕ) → digit k 0 ≡ false
unfolding digit
digit-zero zero = refl
digit-zero (suc k) = digit-zero k

pub digit_pow : (k j : ℕ) → digit k (2 ^ j) ≡ eqb k j
unfolding digit
digit_pow zero zero = refl
digit_pow zero (suc j) =
    ap (λ (x : ℕ). eqb (x % 2) 1) (pow-suc 2 j) ∙ ap (λ (x : ℕ). eqb x 1) (mul-mod_left (2 ^ j) 2) ∙ sym (eqb-zero-suc j)
digit_pow (suc k) zero = digit-zero k ∙ sym (eqb-suc-zero k)
digit_pow (suc k) (suc j) =
    ap (λ (x : ℕ). digit k (x / 2)) (pow-suc 2 j) ∙ ap (digit k) (mul-div_cancel (2 ^ j) two_pos) ∙ digit_pow k j
    ∙ sym (eqb-suc-suc k j)

-- ---- two numbers with the same digits are equal

bit_path : (x y : ℕ) → x < 2 → y < 2 → eqb x 1 ≡ eqb y 1 → x ≡ y
bit_path =
    by_bits (λ x y. eqb x 1 ≡ eqb y 1 → x ≡ y) (λ e. refl) (λ e. absurd (false≢true e)) (λ e. absurd (true≢false e)) (λ e. refl)

from_halves : (a b : ℕ) → a / 2 ≡ b / 2 → a % 2 ≡ b % 2 → a ≡ b
from_halves a b p q = sym (div-add-mod' a 2) ∙ ap₂ (λ (x y : ℕ). x * 2 + y) p q ∙ div-add-mod' b 2

pub digits_ext : (a b : ℕ) → ((k : ℕ) → digit k a ≡ digit k b) → a ≡ b
unfolding digit
digits_ext =
    bin_ind (λ (a : ℕ). (b : ℕ) → ((k : ℕ) → digit k a ≡ digit k b) → a ≡ b)
    (bin_ind (λ (b : ℕ). ((k : ℕ) → digit k 0 ≡ digit k b) → 0 ≡ b) (λ h. refl)
    (λ b ih h. from_halves 0 b (ih (λ k. h (suc k))) (low 0 b (h 0))))
    (λ a ih b h. from_halves a b (ih (b / 2) (λ k. h (suc k))) (low a b (h 0)))
  where
    low : (a b : ℕ) → eqb (a % 2) 1 ≡ eqb (b % 2) 1 → a % 2 ≡ b % 2
    low a b e = bit_path (a % 2) (b % 2) (mod-lt a two_pos) (mod-lt b two_pos) e

-- ---- the laws of sets

-- two sets with the same members are equal
pub set_ext : (a b : Scopes) → ((k : ℕ) → has k a ≡ has k b) → a ≡ b
unfolding has
set_ext a b h = digits_ext a b (λ k. h (suc k))

pub has-none : (k : ℕ) → has k 0 ≡ false
unfolding has
has-none zero = refl
has-none (suc k) = digit-zero k

-- scopes are numbered from 1
pub has-only : (k j : ℕ) → has k (only (suc j)) ≡ eqb k (suc j)
unfolding has only
has-only zero j = sym (eqb-zero-suc j)
has-only (suc k) j = digit_pow k j ∙ sym (eqb-suc-suc k j)

pub has-or : (k : ℕ) (a b : Scopes) → has k (bit_or a b) ≡ (has k a || has k b)
unfolding has
has-or zero a b = refl
has-or (suc k) a b = digit_or k a b

has-and : (k : ℕ) (a b : Scopes) → has k (bit_and a b) ≡ (has k a && has k b)
unfolding has
has-and zero a b = refl
has-and (suc k) a b = digit_and k a b

has-xor : (k : ℕ) (a b : Scopes) → has k (bit_xor a b) ≡ xor (has k a) (has k b)
unfolding has xor
has-xor zero a b = refl
has-xor (suc k) a b = digit-xor k a b

pub has-add : (k j : ℕ) (m : Scopes) → has k (add (suc j) m) ≡ (eqb k (suc j) || has k m)
unfolding add
has-add k j m = has-or k (only (suc j)) m ∙ ap (λ (x : Bool). x || has k m) (has-only k j)

xor-and : (x y : Bool) → xor x (y && x) ≡ (x && not y)
unfolding xor
xor-and true true = refl
xor-and true false = refl
xor-and false true = refl
xor-and false false = refl

pub has-prune : (k : ℕ) (p m : Scopes) → has k (prune p m) ≡ (has k m && not (has k p))
unfolding prune
has-prune k p m =
    has-xor k m (bit_and p m) ∙ ap (xor (has k m)) (has-and k p m) ∙ xor-and (has k m) (has k p)

-- ---- containment is a partial order

-- every member of a is one of b
abbrev pub Sub : Scopes → Scopes → Type 0
Sub a b = (k : ℕ) → has k a ≡ true → has k b ≡ true

and_left : (x y : Bool) → (x && y) ≡ x → x ≡ true → y ≡ true
and_left true y e h = e
and_left false y e h = absurd (false≢true h)

left_and : (x y : Bool) → (x ≡ true → y ≡ true) → (x && y) ≡ x
left_and true y h = h refl
left_and false y h = refl

pub has-flip : (k j : ℕ) (m : Scopes) → has k (flip (suc j) m) ≡ xor (eqb k (suc j)) (has k m)
unfolding flip xor
has-flip k j m = go (has (suc j) m) refl
  where
    here : eqb k (suc j) ≡ true → has k m ≡ has (suc j) m
    here e = ap (λ (i : ℕ). has i m) (eqb-true k (suc j) e)

    out : (x y : Bool) → (x ≡ true → y ≡ true) → (y && not x) ≡ xor x y
    out true true f = refl
    out true false f = absurd (false≢true (f refl))
    out false true f = refl
    out false false f = refl

    put : (x y : Bool) → (x ≡ true → y ≡ false) → (x || y) ≡ xor x y
    put true true f = absurd (false≢true (sym (f refl)))
    put true false f = refl
    put false true f = refl
    put false false f = refl

    go : (t : Bool) → has (suc j) m ≡ t → has k (when t then prune (only (suc j)) m else add (suc j) m) ≡ xor (eqb k (suc j)) (has k m)
    go true h = has-prune k (only (suc j)) m ∙ ap (λ (x : Bool). has k m && not x) (has-only k j) ∙ out (eqb k (suc j)) (has k m) (λ e. here e ∙ h)
    go false h = has-add k j m ∙ put (eqb k (suc j)) (has k m) (λ e. here e ∙ h)

pub within→sub : (a b : Scopes) → within a b ≡ true → Sub a b
unfolding within
within→sub a b e k h =
    and_left (has k a) (has k b) (sym (has-and k a b) ∙ ap (has k) (eqb-true (bit_and a b) a e)) h

pub sub→within : (a b : Scopes) → Sub a b → within a b ≡ true
unfolding within
sub→within a b h =
    eq-eqb (bit_and a b) a (set_ext (bit_and a b) a (λ k. has-and k a b ∙ left_and (has k a) (has k b) (h k)))

pub within-refl : (a : Scopes) → within a a ≡ true
within-refl a = sub→within a a (λ k h. h)

pub within_trans : (a b c : Scopes) → within a b ≡ true → within b c ≡ true → within a c ≡ true
within_trans a b c p q = sub→within a c (λ k h. within→sub b c q k (within→sub a b p k h))

pub within_antisym : (a b : Scopes) → within a b ≡ true → within b a ≡ true → a ≡ b
within_antisym a b p q = set_ext a b (λ k. same_test (has k a) (has k b) (within→sub a b p k) (within→sub b a q k))

pub none_within : (a : Scopes) → within 0 a ≡ true
none_within a = sub→within 0 a (λ k h. absurd (false≢true (sym (has-none k) ∙ h)))

-- each is within the union
pub within-left : (a b : Scopes) → within a (bit_or a b) ≡ true
within-left a b = sub→within a (bit_or a b) (λ k h. has-or k a b ∙ or_left (has k a) (has k b) h)

pub within_right : (a b : Scopes) → within b (bit_or a b) ≡ true
within_right a b = sub→within b (bit_or a b) (λ k h. has-or k a b ∙ or_right (has k a) (has k b) h)

-- ---- flipping twice changes nothing, and a set that has the scope is taken from it

pub flip-flip : (j : ℕ) (m : Scopes) → flip (suc j) (flip (suc j) m) ≡ m
unfolding xor
flip-flip j m =
    set_ext (flip (suc j) (flip (suc j) m)) m
    (λ k. has-flip k j (flip (suc j) m) ∙ ap (xor (eqb k (suc j))) (has-flip k j m) ∙ twice (eqb k (suc j)) (has k m))
  where
    twice : (x y : Bool) → xor x (xor x y) ≡ y
    twice true true = refl
    twice true false = refl
    twice false true = refl
    twice false false = refl
