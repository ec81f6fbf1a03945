-- The order of two sets, decided at the lowest digit in which their words differ.
use mathlib.Core.Path.{◌≡◌, refl, sym, ap, ap₂, ◌∙◌}
use mathlib.Core.Bool.{Bool, true, false, not}
use mathlib.Core.List.{List}
use Prim.Native.Nat.{ℕ, zero, suc, ◌+◌, ◌-◌, ◌*◌, ◌/◌, ◌%◌, ◌^◌, ◌≤◌, ◌<◌}
use native.Mathlib.Nat.{zero-add, add_comm, le_trans, le_of_eq, div-one, mod-one}
use native.Mathlib.Omega.{arith}
use lib.Bits.{bit_xor, xor_add_and, xor_lt, xor_mod, xor_shr, and_le_l, and_le_r, and_self}
use lib.Count.{count_trailing_zeros, under}
use lib.Dec.{eqb}
use lib.ListN.{get_or, length, drop}
use lib.Pow.{shr-shr, shr_le, shr_mono, low, mod-pow-add, mod-mod-pow}
use borrow.Author.Tests.{eq-eqb, ne_eqb}
use Rattle.std.specs.Bool.{MatchBool}
use Rattle.std.specs.List.{AllWithin, HoldsAt}
use Rattle.std.proofs.lemmas.List.{get_or-drop, length-drop}
use Rattle.model.specs.Scopes.{set_before}
use Rattle.scopes.specs.Sets.{word_digits, words_from, set_words}
use Rattle.scopes.proofs.Order.{Alike, half_less, agreeing, before_self, mine, other}
use Rattle.scopes.proofs.Ops.{Each, above}
use Rattle.scopes.proofs.Words.{Words, words_small, words_same, words_above, words-low, words-none, digit_at}

-- ---- the lowest digit in which two words differ: the lowest that is 1 where they are added without carry

-- q is the lowest digit in which two words differ
pub record Differing (a b q : ℕ) : Type 0 where
  pub inside : q < word_digits
  pub below : a % 2 ^ q ≡ b % 2 ^ q
  pub there : a / 2 ^ q % 2 ≡ b / 2 ^ q % 2 → ⊥

record Lowest (k x t : ℕ) : Type 0 where
  inside : t < k
  below : x % 2 ^ t ≡ 0
  one : x / 2 ^ t % 2 ≡ 1

lowest : (k x : ℕ) → x < 2 ^ k → (x ≡ 0 → ⊥) → Lowest k x (count_trailing_zeros k x)
unfolding count_trailing_zeros
lowest zero x h d = absurd (let e : 2 ^ 0 ≡ 1 = refl in d (omega (arith, e)))
lowest (suc k) x h d = go (x % 2) refl (λ n. lowest k (x / 2) (half_less k x h) n)
  where
    go : (b : ℕ) → x % 2 ≡ b → ((x / 2 ≡ 0 → ⊥) → Lowest k (x / 2) (count_trailing_zeros k (x / 2))) → Lowest (suc k) x (under b (count_trailing_zeros k (x / 2)))
    go (suc b) e rest = record { inside = omega arith; below = mod-one x; one = ap (λ (z : ℕ). z % 2) (div-one x) ∙ (let o : x % 2 ≡ 1 = omega arith in o) }
    go zero e rest =
        let t = count_trailing_zeros k (x / 2) in
        let w = rest (λ n. d (omega arith)) in
        let plus : suc t ≡ t + 1 = omega arith in
        let up : suc t ≡ 1 + t = omega arith in
        let split : x % 2 ^ suc t ≡ x / 2 % 2 ^ t * 2 + x % 2 = ap (λ (n : ℕ). x % 2 ^ n) plus ∙ mod-pow-add x t 1 in
        record {
          inside = omega (arith, w.inside);
          below = omega (arith, split, w.below);
          one = ap (λ (z : ℕ). z % 2) (ap (λ (n : ℕ). x / 2 ^ n) up ∙ sym (shr-shr x 1 t)) ∙ w.one;
        }

pub xor-none : {a b : ℕ} → bit_xor a b ≡ 0 → a ≡ b
xor-none {a} {b} e = omega (arith, xor_add_and a b, and_le_l a b, and_le_r a b)

pub xor_same : (a : ℕ) → bit_xor a a ≡ 0
xor_same a = omega (arith, xor_add_and a a, and_self a)

pub differing_at : {a b : ℕ} → a < 2 ^ 64 → b < 2 ^ 64 → (bit_xor a b ≡ 0 → ⊥) → Differing a b (count_trailing_zeros 64 (bit_xor a b))
differing_at {a} {b} f g d =
    let w = lowest 64 (bit_xor a b) (xor_lt 64 a b f g) d in
    let t = count_trailing_zeros 64 (bit_xor a b) in
    record {
      inside = w.inside;
      below = xor-none (sym (xor_mod a b t) ∙ w.below);
      there = λ e.
          let z : bit_xor a b / 2 ^ t % 2 ≡ 0 =
          ap (λ (x : ℕ). x % 2) (xor_shr a b t) ∙ xor_mod (a / 2 ^ t) (b / 2 ^ t) 1 ∙ ap (λ (x : ℕ). bit_xor x (b / 2 ^ t % 2)) e ∙ xor_same (b / 2 ^ t % 2) in
          omega (arith, w.one);
    }

pub differing_inside : {a b : ℕ} → a < 2 ^ 64 → b < 2 ^ 64 → (bit_xor a b ≡ 0 → ⊥) → count_trailing_zeros 64 (bit_xor a b) < 64
differing_inside f g d = (differing_at f g d).inside

-- ---- whether a set reaches digit q of word i

module _ {n : ℕ} {l : List ℕ} (i q : ℕ) (s : Words 64 l) where
  -- without what lies below the digit
  from-digit : i < n → words_from 64 n l 0 / 2 ^ (i * 64 + q) ≡ words_from 64 (suc (n - suc i)) l i / 2 ^ q
  from-digit h =
      sym (shr-shr (words_from 64 n l 0) (i * 64) q)
      ∙ ap (λ (x : ℕ). x / 2 ^ q) (ap (λ (m : ℕ). words_from 64 m l 0 / 2 ^ (i * 64)) (above n i h) ∙ words_above 64 i (suc (n - suc i)) l s)

  pub reaches_here : i < n → (get_or l i 0 / 2 ^ q ≡ 0 → ⊥) → not (eqb (words_from 64 n l 0 / 2 ^ (i * 64 + q)) 0) ≡ true
  unfolding words_from
  reaches_here h d =
      ap not (ne_eqb _ 0 (λ (e : words_from 64 n l 0 / 2 ^ (i * 64 + q) ≡ 0).
      let z : words_from 64 (suc (n - suc i)) l i / 2 ^ q ≡ 0 = sym (from-digit h) ∙ e in
      let m : get_or l i 0 / 2 ^ q ≤ words_from 64 (suc (n - suc i)) l i / 2 ^ q = shr_mono q (let k : get_or l i 0 ≤ words_from 64 (n - suc i) l (suc i) * 2 ^ 64 + get_or l i 0 = omega arith in k) in
      d (omega arith)))

  pub reaches_above : {k : ℕ} → i < k → k < n → q < 64 → (get_or l k 0 ≡ 0 → ⊥) → not (eqb (words_from 64 n l 0 / 2 ^ (i * 64 + q)) 0) ≡ true
  unfolding words_from
  reaches_above {k} g h f d =
      ap not (ne_eqb _ 0 (λ (e : words_from 64 n l 0 / 2 ^ (i * 64 + q) ≡ 0).
      let x = words_from 64 n l 0 in
      let far : (i * 64 + q) + (k * 64 - (i * 64 + q)) ≡ k * 64 = omega arith in
      let z : x / 2 ^ (k * 64) ≤ x / 2 ^ (i * 64 + q) =
      le_trans (le_of_eq (ap (λ (j : ℕ). x / 2 ^ j) (sym far) ∙ sym (shr-shr x (i * 64 + q) (k * 64 - (i * 64 + q))))) (shr_le (x / 2 ^ (i * 64 + q)) (k * 64 - (i * 64 + q))) in
      let y : x / 2 ^ (k * 64) ≡ words_from 64 (suc (n - suc k)) l k = ap (λ (m : ℕ). words_from 64 m l 0 / 2 ^ (k * 64)) (above n k h) ∙ words_above 64 k (suc (n - suc k)) l s in
      d (omega arith)))

  pub reaches-not : i < n → (get_or l i 0 / 2 ^ q ≡ 0) → ((j : ℕ) → i < j → j < n → get_or l j 0 ≡ 0) → not (eqb (words_from 64 n l 0 / 2 ^ (i * 64 + q)) 0) ≡ false
  unfolding words_from
  reaches-not h z empty =
      let none : words_from 64 (n - suc i) l (suc i) ≡ 0 = words-none 64 (n - suc i) l (suc i) (λ j a b. empty j (omega arith) (omega arith)) in
      ap not (eq-eqb _ _ (from-digit h ∙ ap (λ (x : ℕ). (x * 2 ^ 64 + get_or l i 0) / 2 ^ q) none ∙ ap (λ (x : ℕ). x / 2 ^ q) (zero-add (get_or l i 0)) ∙ z))

module _ {n : ℕ} {l : List ℕ} (i q : ℕ) (s : Words 64 l) (h : i < n) where
  pub reaches_now : (get_or l i 0 / 2 ^ q ≡ 0 → ⊥) → not (eqb (get_or l i 0 / 2 ^ q) 0) ≡ not (eqb (words_from 64 n l 0 / 2 ^ (i * 64 + q)) 0)
  reaches_now d = ap not (ne_eqb _ 0 d) ∙ sym (reaches_here i q s h d)

  -- what a test of the words above gives
  pub reaches_any : (r : Bool) → get_or l i 0 / 2 ^ q ≡ 0 → q < 64 → length l ≡ n
      → MatchBool r ((k : ℕ) × (k < length (drop (i + 1) l)) × HoldsAt (λ x. x ≡ 0 → ⊥) (drop (i + 1) l) k) (AllWithin (λ x. x ≡ 0) (drop (i + 1) l) 0 (length (drop (i + 1) l)))
      → r ≡ not (eqb (words_from 64 n l 0 / 2 ^ (i * 64 + q)) 0)
  reaches_any true z f e (k, g, d) =
      let inside : i + 1 + k < n = omega (arith, length-drop (i + 1) l) in
      let there : get_or l (i + 1 + k) 0 ≡ 0 → ⊥ = λ y. d 0 (get_or-drop (i + 1) l k 0 ∙ y) in
      sym (reaches_above i q s (omega arith) inside f there)
  reaches_any false z f e all =
      let none : (j : ℕ) → i < j → j < n → get_or l j 0 ≡ 0 = λ j a b.
      let at : j ≡ i + 1 + (j - (i + 1)) = omega arith in
      ap (λ (k : ℕ). get_or l k 0) at ∙ sym (get_or-drop (i + 1) l (j - (i + 1)) 0) ∙ all (j - (i + 1)) 0 (omega arith) (omega (arith, length-drop (i + 1) l)) in
      sym (reaches-not i q s h z none)

-- ---- the order of two sets whose words below word i agree

module _ {a b : List ℕ} (s : Words 64 a) (t : Words 64 b) where
  pub before-none : {i : ℕ} → Each (λ x y. x ≡ y) set_words a b i → set_words ≤ i → set_before (words_from 64 set_words a 0) (words_from 64 set_words b 0) ≡ false
  before-none v h = before_self _ _ (words_same 64 set_words a b 0 0 (λ k g. rw (zero-add k) (v.held k (omega arith))))

  module _ {i q : ℕ} (v : Each (λ x y. x ≡ y) set_words a b i) (h : i < set_words) (d : Differing (get_or a i 0) (get_or b i 0) q) where
    -- the low digits of a number with words
    low-digits : (l : List ℕ) → Words 64 l → words_from 64 set_words l 0 % 2 ^ (i * 64 + q) ≡ get_or l i 0 % 2 ^ q * 2 ^ (i * 64) + words_from 64 i l 0
    unfolding words_from
    low-digits l u =
        let x = words_from 64 set_words l 0 in
        let m = set_words - suc i in
        let wide : (64 - q) + q ≡ 64 = omega (arith, d.inside) in
        let up : x / 2 ^ (i * 64) ≡ words_from 64 (suc m) l i = ap (λ (k : ℕ). words_from 64 k l 0 / 2 ^ (i * 64)) (above set_words i h) ∙ words_above 64 i (suc m) l u in
        let word : words_from 64 (suc m) l i % 2 ^ q ≡ get_or l i 0 % 2 ^ q =
        sym (mod-mod-pow (words_from 64 (suc m) l i) (64 - q) q) ∙ ap (λ (e : ℕ). words_from 64 (suc m) l i % 2 ^ e % 2 ^ q) wide ∙ ap (λ (z : ℕ). z % 2 ^ q) (low (words_from 64 m l (suc i)) 64 (u.small i)) in
        ap (λ (e : ℕ). x % 2 ^ e) (add_comm (i * 64) q)
        ∙ mod-pow-add x q (i * 64)
        ∙ ap₂ (λ (j k : ℕ). j % 2 ^ q * 2 ^ (i * 64) + k) up (ap (λ (k : ℕ). words_from 64 k l 0 % 2 ^ (i * 64)) (above set_words i h) ∙ words-low 64 i (suc m) l 0 u)
        ∙ ap (λ (k : ℕ). k * 2 ^ (i * 64) + words_from 64 i l 0) word

    agree : Alike (words_from 64 set_words a 0) (words_from 64 set_words b 0) (words_from 64 set_words a 0 / 2 ^ (i * 64 + q)) (words_from 64 set_words b 0 / 2 ^ (i * 64 + q))
    agree =
        agreeing _ _ (i * 64 + q) (omega (arith, d.inside)) (words_small 64 set_words a 0 s) (words_small 64 set_words b 0 t)
        (low-digits a s
        ∙ ap₂ (λ (j k : ℕ). j * 2 ^ (i * 64) + k) d.below (words_same 64 i a b 0 0 (λ k g. rw (zero-add k) (v.held k g)))
        ∙ sym (low-digits b t))

    digit : (l : List ℕ) → Words 64 l → words_from 64 set_words l 0 / 2 ^ (i * 64 + q) % 2 ≡ get_or l i 0 / 2 ^ q % 2
    digit l u = ap (λ (m : ℕ). words_from 64 m l 0 / 2 ^ (i * 64 + q) % 2) (above set_words i h) ∙ digit_at 64 i (set_words - suc i) l u q d.inside

    there : words_from 64 set_words a 0 / 2 ^ (i * 64 + q) % 2 ≡ words_from 64 set_words b 0 / 2 ^ (i * 64 + q) % 2 → ⊥
    there e = d.there (sym (digit a s) ∙ e ∙ digit b t)

    pub before_mine : {r : Bool} → get_or a i 0 / 2 ^ q % 2 ≡ 1 → r ≡ not (eqb (words_from 64 set_words b 0 / 2 ^ (i * 64 + q)) 0) → r ≡ set_before (words_from 64 set_words a 0) (words_from 64 set_words b 0)
    before_mine p e = e ∙ sym (mine agree (λ k. there (ap (λ (z : ℕ). z % 2) k)) there (digit a s ∙ p))

    pub before-other : {r : Bool} → (get_or a i 0 / 2 ^ q % 2 ≡ 1 → ⊥) → r ≡ not (eqb (words_from 64 set_words a 0 / 2 ^ (i * 64 + q)) 0) → not r ≡ set_before (words_from 64 set_words a 0) (words_from 64 set_words b 0)
    before-other p e = ap not e ∙ twice _ ∙ sym (other agree (λ k. there (ap (λ (z : ℕ). z % 2) k)) there (λ k. p (sym (digit a s) ∙ k)))
      where
        twice : (x : Bool) → not (not x) ≡ x
        twice true = refl
        twice false = refl
