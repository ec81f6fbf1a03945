-- Digits and the number that they make, by the tests that the code makes.
use Prim.Native.Nat.{ℕ, ◌+◌, ◌-◌, ◌*◌, ◌≤◌, ◌<◌}
use mathlib.Core.Path.{◌≡◌, refl, sym, ap, ◌∙◌, subst}
use mathlib.Core.List.{List, [], ◌∷◌}
use mathlib.Core.Bool.{Bool, true, false, ◌&&◌}
use native.Mathlib.Omega.{arith}
use native.Mathlib.Nat.{le_trans}
use lib.ListN.{length, get_or, drop, drop_of_length-le}
use borrow.Author.Tests.{ne_eqb}
use Rattle.requests.specs.Tokens.{digit, all_digits, numeral, value}
use Rattle.text_laws.proofs.Decimals.{value_grows}
use native.Mathlib.Numerals.{add-one}
use lib.Seq.{drop-cons}
use Rattle.tokens.specs.Decimals.{over, Valued, DecimalIs}
use Rattle.tokens.specs.declared.decimals.DecimalError.TheVariants.{NoNumeral, TooLarge}
use Rattle.std.specs.Prelude.{Ok, Err}
use Rattle.std.specs.List.{list_all}

-- ---- all are digits

pub all_are : (s : List ℕ) → list_all digit s ≡ all_digits s
unfolding all_digits
all_are [] = refl
all_are (b ∷ s) = ap (λ (t : Bool). digit b && t) (all_are s)

-- ---- a numeral

pub numeral-none : (s : List ℕ) → length s < 1 → false ≡ numeral s
unfolding numeral
numeral-none [] h = refl
numeral-none (b ∷ s) h = absurd (omega arith)

pub numeral-one : (s : List ℕ) {d : Bool} → 1 ≤ length s → length s < 2 → d ≡ digit (get_or s 0 0) → d ≡ numeral s
unfolding numeral
numeral-one [] p q h = absurd (omega arith)
numeral-one (b ∷ []) p q h = h
numeral-one (b ∷ c ∷ s) p q h = absurd (omega arith)

pub numeral-zero : (s : List ℕ) → 2 ≤ length s → get_or s 0 0 ≡ 48 → false ≡ numeral s
unfolding numeral digit
numeral-zero [] p e = absurd (omega arith)
numeral-zero (b ∷ []) p e = absurd (omega arith)
numeral-zero (b ∷ c ∷ s) p e = rw e

pub numeral-more : (s : List ℕ) {r : Bool} → 2 ≤ length s → (get_or s 0 0 ≡ 48 → ⊥) → r ≡ all_digits s → r ≡ numeral s
unfolding numeral all_digits
numeral-more [] p e h = absurd (omega arith)
numeral-more (b ∷ []) p e h = absurd (omega arith)
numeral-more (b ∷ c ∷ s) p e h = h ∙ go (digit b) ∙ simp (ne_eqb b 48 e)
  where
    go : (t : Bool) → (t && all_digits (c ∷ s)) ≡ (t && true && all_digits (c ∷ s))
    go true = refl
    go false = refl

pub ruleset numeral_laws = (numeral-none, numeral-one, numeral-zero, numeral-more)

-- ---- its value

value_none : (n : ℕ) → value n [] ≡ n
unfolding value
value_none n = refl

value-step : (s : List ℕ) (n i : ℕ) → i < length s → value n (drop i s) ≡ value (n * 10 + (get_or s i 0 - 48)) (drop (i + 1) s)
unfolding value
value-step s n i h = ap (value n) at-cons
  where
    at-cons : drop i s ≡ get_or s i 0 ∷ drop (i + 1) s
    at-cons = rw (add-one, drop-cons s i 0 h)

-- n is what the first i digits make; it is at most ten times a number that is not too large, and a byte
pub record Valuing (s : List ℕ) (n i : ℕ) : Type 0 where
  pub so_far : value 0 s ≡ value n (drop i s)
  pub small : n < 42949673158

pub valuing_start : {s : List ℕ} → Valuing s 0 0
valuing_start = record { so_far = refl; small = omega arith }

module _ {s : List ℕ} {n i : ℕ} (v : Valuing s n i) where
  pub value-over : over ≤ n → Valued s n
  value-over h = record {
    exact = λ l. absurd (no l);
    large = λ l. subst (λ (z : ℕ). over ≤ z) (sym v.so_far) (le_trans h (value_grows n (drop i s)));
  }
    where
      no : n < over → ⊥
      no l = omega arith

  pub value-end : length s ≤ i → Valued s n
  value-end h =
      let e : value 0 s ≡ n = v.so_far ∙ ap (value n) (drop_of_length-le s h) ∙ value_none n in
      record { exact = λ l. e; large = λ l. subst (λ (z : ℕ). over ≤ z) (sym e) l }

  pub value-more : {w : ℕ} → n < over → i < length s → w ≡ get_or s i 0 - 48 → w < 208 → Valuing s (n * 10 + w) (i + 1)
  value-more {w} l h e b = record {
    so_far = v.so_far ∙ value-step s n i h ∙ ap (λ (z : ℕ). value (n * 10 + z) (drop (i + 1) s)) (sym e);
    small = omega arith;
  }

pub ruleset value_laws = (valuing_start, value-over, value-end, value-more)

-- ---- the answer

module _ (s : List ℕ) {t : Bool} (q : t ≡ numeral s) where
  pub decimal_none : t ≡ false → DecimalIs s (Err NoNumeral)
  decimal_none e = record { is = sym q ∙ e }

  module _ {n : ℕ} (e : t ≡ true) (v : Valued s n) where
    pub decimal_ok : n < over → DecimalIs s (Ok n)
    decimal_ok h = record { is = (sym q ∙ e, v.exact h) }

    pub decimal_large : over ≤ n → DecimalIs s (Err TooLarge)
    decimal_large h = record { is = (sym q ∙ e, v.large h) }

pub ruleset decimal_laws = (decimal_none, decimal_ok, decimal_large)
