-- A scope's place in a set: the digit of weight 2 ^ (k - 1).
use mathlib.Core.Path.{◌≡◌, refl, sym, ap, ap₂, ◌∙◌}
use mathlib.Core.Bool.{Bool, true, false}
use mathlib.Core.List.{List}
use Prim.Native.Nat.{ℕ, zero, suc, ◌+◌, ◌-◌, ◌*◌, ◌/◌, ◌%◌, ◌^◌, ◌≤◌, ◌<◌}
use native.Mathlib.Nat.{div-one, zero-add, one-mul, div-add-mod', mod-lt}
use native.Mathlib.Omega.{arith}
use lib.Dec.{eqb, lit<}
use lib.ListN.{get_or, length, set, replicate, length-replicate}
use lib.Pow.{shr-shr, pow-add, shl_exact}
use lib.Seq.{get_or-set_same, get_or-set_other}
use Rattle.model.specs.Limits.{most_scopes}
use Rattle.model.specs.Scopes.{Scopes, digit, has, only, add, prune, flip}
use Rattle.scopes.specs.Sets.{words_from, set_scopes}
use Rattle.scopes.proofs.Words.{Words, words-one, digit_at}

-- a set has a digit for every scope
pub set_is : set_scopes ≡ most_scopes
unfolding most_scopes
set_is = refl

pub only-is : (k : ℕ) → 1 ≤ k → only k ≡ 2 ^ (k - 1)
unfolding only
only-is zero h = omega arith
only-is (suc k) h = ap (λ (j : ℕ). 2 ^ j) (let e : k ≡ suc k - 1 = omega arith in e)

digit-is : (k : ℕ) (m : Scopes) → digit k m ≡ eqb (m / 2 ^ k % 2) 1
unfolding digit
digit-is zero m = ap (λ (x : ℕ). eqb (x % 2) 1) (sym (div-one m))
digit-is (suc k) m = digit-is k (m / 2) ∙ ap (λ (x : ℕ). eqb (x % 2) 1) (shr-shr m 1 k ∙ ap (λ (j : ℕ). m / 2 ^ j) (let e : 1 + k ≡ suc k = omega arith in e))

pub has-is : (k : ℕ) (m : Scopes) → 1 ≤ k → has k m ≡ eqb (m / 2 ^ (k - 1) % 2) 1
unfolding has
has-is zero m h = absurd (let e : ⊥ = omega arith in e)
has-is (suc k) m h = digit-is k m ∙ ap (λ (j : ℕ). eqb (m / 2 ^ j % 2) 1) (let e : k ≡ suc k - 1 = omega arith in e)

-- ---- flipping, by the test that is made

module _ (k : ℕ) (m : Scopes) {r : Scopes} {t : Bool} (e : t ≡ has k m) where
  pub flip-out : {one : Scopes} → t ≡ true → one ≡ only k → r ≡ prune one m → r ≡ flip k m
  unfolding flip
  flip-out h o p = let there : has k m ≡ true = cc in rw there (p ∙ ap (λ (x : Scopes). prune x m) o)

  pub flip_in_lem : t ≡ false → r ≡ add k m → r ≡ flip k m
  unfolding flip
  flip_in_lem h p = let absent : has k m ≡ false = cc in rw absent p

-- ---- the place of a scope among words of 64 digits

place_is : (p : ℕ) → p / 64 * 64 + p % 64 ≡ p
place_is p = div-add-mod' p 64

-- n words of which all are 0
pub record Zeros (n : ℕ) (l : List ℕ) : Type 0 where
  pub long : length l ≡ n
  pub zeros : (k : ℕ) → get_or l k 0 ≡ 0

pub only-words : {n : ℕ} {l : List ℕ} (p : ℕ) → Zeros n l → p / 64 < n → words_from 64 n (set l (p / 64) (1 * 2 ^ (p % 64) % 2 ^ 64)) 0 ≡ 2 ^ p
only-words {n} {l} p z h =
    let v : 1 * 2 ^ (p % 64) % 2 ^ 64 ≡ 2 ^ (p % 64) = shl_exact 1 (p % 64) 64 (lit< tt) (omega arith) ∙ one-mul _ in
    words-one 64 n (set l (p / 64) _) 0 (p / 64) h (λ k d. get_or-set_other l (p / 64) k _ 0 (λ e. d (e ∙ sym (zero-add (p / 64)))) ∙ z.zeros k)
    ∙ ap (λ (x : ℕ). x * 2 ^ (p / 64 * 64)) (ap (λ (k : ℕ). get_or (set l (p / 64) (1 * 2 ^ (p % 64) % 2 ^ 64)) k 0) (zero-add (p / 64)) ∙ get_or-set_same l (p / 64) _ 0 (omega (arith, z.long)) ∙ v)
    ∙ sym (pow-add 2 (p % 64) (p / 64 * 64))
    ∙ ap (λ (e : ℕ). 2 ^ e) (let e : p % 64 + p / 64 * 64 ≡ p = omega (arith, place_is p) in e)

pub zeros_of : (n : ℕ) → Zeros n (replicate n 0)
zeros_of n = record { long = length-replicate n 0; zeros = go n }
  where
    go : (m k : ℕ) → ◌≡◌ {A = ℕ} (get_or (replicate m 0) k 0) 0
    go zero k = refl
    go (suc m) zero = refl
    go (suc m) (suc k) = go m k

pub has_words : (k n : ℕ) (l : List ℕ) → Words 64 l → 1 ≤ k → (k - 1) / 64 < n → has k (words_from 64 n l 0) ≡ eqb (get_or l ((k - 1) / 64) 0 / 2 ^ ((k - 1) % 64) % 2) 1
has_words k n l s h g =
    let i = (k - 1) / 64 in
    let e : n ≡ i + suc (n - suc i) = omega arith in
    has-is k (words_from 64 n l 0) h
    ∙ ap (λ (x : ℕ). eqb (x % 2) 1) (ap₂ (λ (m p : ℕ). words_from 64 m l 0 / 2 ^ p) e (sym (place_is (k - 1))))
    ∙ ap (λ (x : ℕ). eqb x 1) (digit_at 64 i (n - suc i) l s ((k - 1) % 64) (mod-lt (k - 1) (lit< tt)))
