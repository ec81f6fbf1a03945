-- Numbers made of words, the low word first. Every law is over the number of words, n, and their width, w; l are the words.
use mathlib.Core.Path.{◌≡◌, refl, sym, ap, ap₂, ◌∙◌, subst}
use mathlib.Core.List.{List}
use Prim.Native.Nat.{ℕ, zero, suc, ◌+◌, ◌-◌, ◌*◌, ◌/◌, ◌%◌, ◌^◌, ◌≤◌, ◌<◌}
use native.Mathlib.Nat.{zero-add, add-zero, add-suc, suc-add, add_comm, suc-mul, zero-mul, mul-one, mul_assoc, div-one, mod-one}
use native.Mathlib.Omega.{arith}
use lib.Arith.{digits_lt}
use lib.ListN.{get_or}
use lib.Pow.{pow-add, shr-shr, high, low, mod-pow-add, field, mod-mod-pow}
use Rattle.scopes.specs.Sets.{words_from}

-- each word has w bits
pub record Words (w : ℕ) (l : List ℕ) : Type 0 where
  pub small : (k : ℕ) → get_or l k 0 < 2 ^ w

times : (w n : ℕ) → w + n * w ≡ suc n * w
times w n = add_comm w (n * w) ∙ sym (suc-mul n w)

pow_times : (w n : ℕ) → 2 ^ (suc n * w) ≡ 2 ^ (n * w) * 2 ^ w
pow_times w n = ap (λ (e : ℕ). 2 ^ e) (suc-mul n w) ∙ pow-add 2 (n * w) w

-- n words make a number of n * w bits
pub words_small : (w n : ℕ) (l : List ℕ) (i : ℕ) → Words w l → words_from w n l i < 2 ^ (n * w)
unfolding words_from
words_small w zero l i s = let e : 2 ^ (0 * w) ≡ 1 = ap (λ (k : ℕ). 2 ^ k) (zero-mul w) in omega arith
words_small w (suc n) l i s =
    subst (λ (e : ℕ). words_from w (suc n) l i < e) (sym (pow_times w n)) (digits_lt (words_small w n l (suc i) s) (s.small i))

-- words that agree make the same number
pub words_same : (w n : ℕ) (l m : List ℕ) (i j : ℕ) → ((k : ℕ) → k < n → get_or l (i + k) 0 ≡ get_or m (j + k) 0) → words_from w n l i ≡ words_from w n m j
unfolding words_from
words_same w zero l m i j e = refl
words_same w (suc n) l m i j e =
    ap₂ (λ (x y : ℕ). x * 2 ^ w + y)
    (words_same w n l m (suc i) (suc j) (λ k h. rw (suc-add i k, suc-add j k, ← add-suc i k, ← add-suc j k) (e (suc k) (omega arith))))
    (ap (λ (k : ℕ). get_or l k 0) (sym (add-zero i)) ∙ e 0 (omega arith) ∙ ap (λ (k : ℕ). get_or m k 0) (add-zero j))

-- without the k low words
pub words-rest : (w k n : ℕ) (l : List ℕ) (i : ℕ) → Words w l → words_from w (k + n) l i / 2 ^ (k * w) ≡ words_from w n l (i + k)
unfolding words_from
words-rest w zero n l i s = rw (zero-mul w, add-zero i, zero-add n) (div-one (words_from w n l i))
words-rest w (suc k) n l i s =
    ap (λ (m : ℕ). words_from w m l i / 2 ^ (suc k * w)) (suc-add k n)
    ∙ ap (λ (e : ℕ). words_from w (suc (k + n)) l i / 2 ^ e) (sym (times w k))
    ∙ sym (shr-shr (words_from w (suc (k + n)) l i) w (k * w))
    ∙ ap (λ (x : ℕ). x / 2 ^ (k * w)) (high (words_from w (k + n) l (suc i)) w (s.small i))
    ∙ words-rest w k n l (suc i) s
    ∙ ap (words_from w n l) (suc-add i k ∙ sym (add-suc i k))

pub words_above : (w k n : ℕ) (l : List ℕ) → Words w l → words_from w (k + n) l 0 / 2 ^ (k * w) ≡ words_from w n l k
words_above w k n l s = words-rest w k n l 0 s ∙ ap (words_from w n l) (zero-add k)

-- the k low words alone
pub words-low : (w k n : ℕ) (l : List ℕ) (i : ℕ) → Words w l → words_from w (k + n) l i % 2 ^ (k * w) ≡ words_from w k l i
unfolding words_from
words-low w zero n l i s = rw (zero-mul w, zero-add n) (mod-one (words_from w n l i))
words-low w (suc k) n l i s =
    let x = words_from w (suc (k + n)) l i in
    ap (λ (m : ℕ). words_from w m l i % 2 ^ (suc k * w)) (suc-add k n)
    ∙ ap (λ (e : ℕ). x % 2 ^ e) (suc-mul k w)
    ∙ mod-pow-add x (k * w) w
    ∙ ap₂ (λ (a b : ℕ). a % 2 ^ (k * w) * 2 ^ w + b) (high (words_from w (k + n) l (suc i)) w (s.small i)) (low (words_from w (k + n) l (suc i)) w (s.small i))
    ∙ ap (λ (a : ℕ). a * 2 ^ w + get_or l i 0) (words-low w k n l (suc i) s)

-- word k
pub word_at : (w k n : ℕ) (l : List ℕ) → Words w l → words_from w (k + suc n) l 0 / 2 ^ (k * w) % 2 ^ w ≡ get_or l k 0
unfolding words_from
word_at w k n l s = ap (λ (x : ℕ). x % 2 ^ w) (words_above w k (suc n) l s) ∙ low (words_from w n l (suc k)) w (s.small k)

-- digit q of word k is digit k * w + q
pub digit_at : (w k n : ℕ) (l : List ℕ) → Words w l → (q : ℕ) → q < w → words_from w (k + suc n) l 0 / 2 ^ (k * w + q) % 2 ≡ get_or l k 0 / 2 ^ q % 2
unfolding words_from
digit_at w k n l s q h =
    ap (λ (x : ℕ). x % 2) (sym (shr-shr (words_from w (k + suc n) l 0) (k * w) q) ∙ ap (λ (x : ℕ). x / 2 ^ q) (words_above w k (suc n) l s))
    ∙ inside (words_from w (suc n) l k) (get_or l k 0) (low (words_from w n l (suc k)) w (s.small k))
  where
    inside : (x y : ℕ) → x % 2 ^ w ≡ y → x / 2 ^ q % 2 ≡ y / 2 ^ q % 2
    inside x y e =
        let wide : (w - 1 - q) + 1 + q ≡ w = omega arith in
        sym (mod-mod-pow (x / 2 ^ q) (w - 1 - q) 1)
        ∙ ap (λ (z : ℕ). z % 2) (sym (field x (w - 1 - q + 1) q) ∙ ap (λ (e : ℕ). x % 2 ^ e / 2 ^ q) wide ∙ ap (λ (z : ℕ). z / 2 ^ q) e)

-- words that are all 0, and all but word j
pub words-none : (w n : ℕ) (l : List ℕ) (i : ℕ) → ((k : ℕ) → i ≤ k → k < i + n → get_or l k 0 ≡ 0) → words_from w n l i ≡ 0
unfolding words_from
words-none w zero l i z = refl
words-none w (suc n) l i z = rw (words-none w n l (suc i) (λ k h g. z k (omega arith) (omega arith)), z i (omega arith) (omega arith), zero-mul (2 ^ w))

pub words-one : (w n : ℕ) (l : List ℕ) (i j : ℕ) → j < n → ((k : ℕ) → (k ≡ i + j → ⊥) → get_or l k 0 ≡ 0) → words_from w n l i ≡ get_or l (i + j) 0 * 2 ^ (j * w)
unfolding words_from
words-one w zero l i j h z = absurd (omega arith)
words-one w (suc n) l i zero h z =
    rw (words-none w n l (suc i) (λ k g f. z k (λ e. omega arith)), zero-mul w, add-zero i, zero-mul (2 ^ w), zero-add (get_or l i 0)) (sym (mul-one (get_or l i 0)))
words-one w (suc n) l i (suc j) h z =
    ap₂ (λ (x y : ℕ). x * 2 ^ w + y) (words-one w n l (suc i) j (omega arith) (λ k g. z k (λ e. g (omega arith)))) (z i (λ e. omega arith))
    ∙ add-zero _
    ∙ mul_assoc (get_or l (suc i + j) 0) (2 ^ (j * w)) (2 ^ w)
    ∙ ap₂ (λ (x y : ℕ). get_or l x 0 * y) (suc-add i j ∙ sym (add-suc i j)) (sym (pow_times w j))

-- ---- operations that go digit by digit go word by word

-- the words of r from i on are those of a and b, op done on each pair
module _ (op : ℕ → ℕ → ℕ) (none : op 0 0 ≡ 0) (block : (k a b r s : ℕ) → r < 2 ^ k → s < 2 ^ k → op (a * 2 ^ k + r) (b * 2 ^ k + s) ≡ op a b * 2 ^ k + op r s) where
  pub by-words : (w n : ℕ) (r a b : List ℕ) (i : ℕ) → Words w a → Words w b → ((k : ℕ) → k < i + n → get_or r k 0 ≡ op (get_or a k 0) (get_or b k 0))
      → words_from w n r i ≡ op (words_from w n a i) (words_from w n b i)
  unfolding words_from
  by-words w zero r a b i p q e = sym none
  by-words w (suc n) r a b i p q e =
      ap₂ (λ (x y : ℕ). x * 2 ^ w + y) (by-words w n r a b (suc i) p q (λ k h. e k (omega arith))) (e i (omega arith))
      ∙ sym (block w (words_from w n a (suc i)) (words_from w n b (suc i)) (get_or a i 0) (get_or b i 0) (p.small i) (q.small i))
