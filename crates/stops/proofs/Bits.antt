-- A digit of a word in which one digit was set.
use mathlib.Core.Path.{◌≡◌, refl, sym, ap, ◌∙◌}
use mathlib.Core.Bool.{Bool, true, false}
use Prim.Native.Nat.{ℕ, zero, suc, ◌+◌, ◌-◌, ◌*◌, ◌/◌, ◌%◌, ◌^◌, ◌≤◌, ◌<◌}
use native.Mathlib.Nat.{one-mul, div-eq_of_lt, mod-lt}
use native.Mathlib.Omega.{arith}
use borrow.Author.Tests.{ltb-true, ltb-false}
use lib.Bits.{bit_or, or_shr, or_mod, or_zero_r, shifted_even}
use lib.Dec.{ltb, lit<}
use lib.Pow.{pow-add, pow-lt, shl-shr, shl_exact}

-- ---- the number with digit q alone

one-there : (q : ℕ) → 2 ^ q / 2 ^ q ≡ 1
one-there q = ap (λ (x : ℕ). x / 2 ^ q) (sym (one-mul (2 ^ q))) ∙ shl-shr 1 q

one_even : (q p : ℕ) → p < q → 2 ^ q / 2 ^ p % 2 ≡ 0
one_even q p h =
    let e : q ≡ suc (q - p - 1) + p = omega arith in
    let d : 2 ^ q ≡ 2 ^ suc (q - p - 1) * 2 ^ p = ap (λ (k : ℕ). 2 ^ k) e ∙ pow-add 2 (suc (q - p - 1)) p in
    ap (λ (x : ℕ). x / 2 ^ p % 2) d ∙ ap (λ (x : ℕ). x % 2) (shl-shr (2 ^ suc (q - p - 1)) p)
    ∙ ap (λ (x : ℕ). x % 2) (sym (one-mul (2 ^ suc (q - p - 1)))) ∙ shifted_even 1 (q - p - 1)

one_elsewhere : (q p : ℕ) → (p ≡ q → ⊥) → 2 ^ q / 2 ^ p % 2 ≡ 0
one_elsewhere q p h = go (ltb p q) refl
  where
    go : (t : Bool) → ltb p q ≡ t → 2 ^ q / 2 ^ p % 2 ≡ 0
    go true e = one_even q p (ltb-true p q e)
    go false e =
        let le : q ≤ p = ltb-false p q e in
        let lt : q < p = omega arith in
        ap (λ (x : ℕ). x % 2) (div-eq_of_lt (pow-lt lt))

-- ---- a word in which it was set

digit_or : (w v p : ℕ) → bit_or w v / 2 ^ p % 2 ≡ bit_or (w / 2 ^ p % 2) (v / 2 ^ p % 2)
digit_or w v p = ap (λ (x : ℕ). x % 2) (or_shr w v p) ∙ or_mod (w / 2 ^ p) (v / 2 ^ p) 1

or-one : (a : ℕ) → a < 2 → bit_or a 1 ≡ 1
or-one zero h = refl
or-one (suc zero) h = refl
or-one (suc (suc a)) h = absurd (omega arith)

pub set_there : (w q : ℕ) → bit_or w (2 ^ q) / 2 ^ q % 2 ≡ 1
set_there w q = digit_or w (2 ^ q) q ∙ ap (λ (x : ℕ). bit_or (w / 2 ^ q % 2) (x % 2)) (one-there q) ∙ or-one _ (mod-lt (w / 2 ^ q) (lit< tt))

pub set_elsewhere : (w q p : ℕ) → (p ≡ q → ⊥) → bit_or w (2 ^ q) / 2 ^ p % 2 ≡ w / 2 ^ p % 2
set_elsewhere w q p h = digit_or w (2 ^ q) p ∙ ap (bit_or (w / 2 ^ p % 2)) (one_elsewhere q p h) ∙ or_zero_r _

pub one-is : (q : ℕ) → q < 32 → 1 * 2 ^ q % 2 ^ 32 ≡ 2 ^ q
one-is q h = shl_exact 1 q 32 (lit< tt) (omega arith) ∙ one-mul _
