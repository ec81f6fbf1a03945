-- What the loops over the words of sets know, and what it comes to. Every law is over the number of words, n.
use mathlib.Core.Path.{◌≡◌, refl, sym, ap, ap₂, ◌∙◌}
use mathlib.Core.Bool.{true, false}
use mathlib.Core.List.{List}
use Prim.Native.Nat.{ℕ, suc, ◌+◌, ◌-◌, ◌*◌, ◌/◌, ◌%◌, ◌^◌, ◌≤◌, ◌<◌}
use native.Mathlib.Omega.{arith}
use lib.Bits.{bit_and, bit_or, bit_xor, and_block, or_block, xor_block, and_shr, and_mod, and_lt, and_comm, and_self, xor_add_and}
use lib.ListN.{get_or, length, set, length-set}
use lib.Seq.{get_or-set_same, get_or-set_other}
use borrow.Author.Count.{below_more}
use borrow.Author.Tests.{eq-eqb, ne_eqb}
use mir.Syntax.{w64}
use mir.Val.{Fits}
use Rattle.std.specs.Int.{bit_not}
use Rattle.std.proofs.lemmas.Nat.{and-not, and_assoc}
use Rattle.model.specs.Scopes as model
use Rattle.scopes.specs.Sets.{words_from}
use Rattle.scopes.proofs.Words.{Words, word_at, by-words}

-- ---- an operation on each pair of words: below i, r has its results

pub record Over (op : ℕ → ℕ → ℕ) (n : ℕ) (a b r : List ℕ) (i : ℕ) : Type 0 where
  pub inside : i ≤ n
  pub long : length r ≡ n
  pub done : (k : ℕ) → k < i → get_or r k 0 ≡ op (get_or a k 0) (get_or b k 0)

pub over_none : {op : ℕ → ℕ → ℕ} {n : ℕ} {a b r : List ℕ} → length r ≡ n → Over op n a b r 0
over_none e = record { inside = omega arith; long = e; done = λ k h. absurd (omega arith) }

module _ {op : ℕ → ℕ → ℕ} {n : ℕ} {a b r : List ℕ} {i : ℕ} (v : Over op n a b r i) where
  pub over-more : i < n → Over op n a b (set r i (op (get_or a i 0) (get_or b i 0))) (i + 1)
  over-more h = record {
    inside = omega arith;
    long = length-set r i _ ∙ v.long;
    done = below_more (λ (k : ℕ). get_or (set r i (op (get_or a i 0) (get_or b i 0))) k 0 ≡ op (get_or a k 0) (get_or b k 0)) i
        (λ k g. get_or-set_other r i k _ 0 (λ e. omega arith) ∙ v.done k g)
        (get_or-set_same r i _ 0 (omega (arith, v.long)));
  }

  pub over-inside : i < n → i < length r
  over-inside h = omega (arith, v.long)

  pub over-all : (w : ℕ) → n ≤ i → op 0 0 ≡ 0
      → ((k x y p q : ℕ) → p < 2 ^ k → q < 2 ^ k → op (x * 2 ^ k + p) (y * 2 ^ k + q) ≡ op x y * 2 ^ k + op p q)
      → Words w a → Words w b → words_from w n r 0 ≡ op (words_from w n a 0) (words_from w n b 0)
  over-all w h none block s t = by-words op none block w n r a b 0 s t (λ k g. v.done k (omega arith))

prune_block : (k x y p q : ℕ) → p < 2 ^ k → q < 2 ^ k
    → bit_xor (y * 2 ^ k + q) (bit_and (x * 2 ^ k + p) (y * 2 ^ k + q)) ≡ bit_xor y (bit_and x y) * 2 ^ k + bit_xor q (bit_and p q)
prune_block k x y p q g h =
    ap (bit_xor (y * 2 ^ k + q)) (and_block k x y p q g h) ∙ xor_block k y (bit_and x y) q (bit_and p q) h (and_lt k p q g h)

-- the digits of m that p has not
pub pruned : {p m : ℕ} → p < 2 ^ 64 → m < 2 ^ 64 → bit_and m (bit_not w64 p) ≡ bit_xor m (bit_and p m)
pruned {p} {m} f g =
    let out = xor_add_and m (bit_and p m) in
    let inner : bit_and m (bit_and p m) ≡ bit_and p m = ap (bit_and m) (and_comm p m) ∙ sym (and_assoc p m m) ∙ ap (λ (x : ℕ). bit_and x p) (and_self m) ∙ and_comm m p in
    let rest : bit_and (bit_not w64 p) m + bit_and p m ≡ m = and-not 64 p m f g in
    let turned : bit_and m (bit_not w64 p) ≡ bit_and (bit_not w64 p) m = and_comm m (bit_not w64 p) in
    omega arith

module _ {n : ℕ} {a b r : List ℕ} {i : ℕ} (w : ℕ) where
  pub union-all : Over bit_or n a b r i → n ≤ i → Words w a → Words w b → words_from w n r 0 ≡ bit_or (words_from w n a 0) (words_from w n b 0)
  union-all v h = over-all v w h refl or_block

  -- a is what is prunable
  pub prune-all : Over (λ p m. bit_xor m (bit_and p m)) n a b r i → n ≤ i → Words w a → Words w b → words_from w n r 0 ≡ model.prune (words_from w n a 0) (words_from w n b 0)
  unfolding model.prune
  prune-all v h = over-all v w h refl prune_block

pub pruned_more : {n : ℕ} {a b r : List ℕ} {i : ℕ} → Over (λ p m. bit_xor m (bit_and p m)) n a b r i → Words 64 a → Words 64 b → i < n
    → Over (λ p m. bit_xor m (bit_and p m)) n a b (set r i (bit_and (get_or b i 0) (bit_not w64 (get_or a i 0)))) (i + 1)
pruned_more {i = i} v s t h = let e = pruned (s.small i) (t.small i) in rw e (over-more v h)

-- ---- a test of each pair of words: it held below i

pub record Each (P : ℕ → ℕ → Type 0) (n : ℕ) (a b : List ℕ) (i : ℕ) : Type 0 where
  pub inside : i ≤ n
  pub held : (k : ℕ) → k < i → P (get_or a k 0) (get_or b k 0)

pub each_none : {P : ℕ → ℕ → Type 0} {n : ℕ} {a b : List ℕ} → Each P n a b 0
each_none = record { inside = omega arith; held = λ k h. absurd (omega arith) }

pub each_more : {P : ℕ → ℕ → Type 0} {n : ℕ} {a b : List ℕ} {i : ℕ} → Each P n a b i → i < n → P (get_or a i 0) (get_or b i 0) → Each P n a b (i + 1)
each_more {P} {n} {a} {b} {i} v h p = record { inside = omega arith; held = below_more (λ (k : ℕ). P (get_or a k 0) (get_or b k 0)) i v.held p }

-- the number of words as what lies below word i, that word, and what lies above
pub above : (n i : ℕ) → i < n → n ≡ i + suc (n - suc i)
above n i h = omega arith

module _ {n : ℕ} {a b : List ℕ} {i : ℕ} (w : ℕ) where
  pub within_all : Each (λ x y. bit_and x y ≡ x) n a b i → n ≤ i → Words w a → Words w b → model.within (words_from w n a 0) (words_from w n b 0) ≡ true
  unfolding model.within
  within_all v h s t = eq-eqb _ _ (sym (by-words bit_and refl and_block w n a a b 0 s t (λ k g. sym (v.held k (omega arith)))))

  pub within-not : i < n → Words w a → Words w b → (bit_and (get_or a i 0) (get_or b i 0) ≡ get_or a i 0 → ⊥) → model.within (words_from w n a 0) (words_from w n b 0) ≡ false
  unfolding model.within
  within-not h s t d = ne_eqb _ _ (λ e. d (go e))
    where
      word : List ℕ → ℕ
      word l = words_from w n l 0 / 2 ^ (i * w) % 2 ^ w

      word-is : (l : List ℕ) → Words w l → word l ≡ get_or l i 0
      word-is l u = ap (λ (m : ℕ). words_from w m l 0 / 2 ^ (i * w) % 2 ^ w) (above n i h) ∙ word_at w i (n - suc i) l u

      go : bit_and (words_from w n a 0) (words_from w n b 0) ≡ words_from w n a 0 → bit_and (get_or a i 0) (get_or b i 0) ≡ get_or a i 0
      go e =
          ap₂ bit_and (sym (word-is a s)) (sym (word-is b t))
          ∙ sym (and_mod (words_from w n a 0 / 2 ^ (i * w)) (words_from w n b 0 / 2 ^ (i * w)) w)
          ∙ ap (λ (x : ℕ). x % 2 ^ w) (sym (and_shr (words_from w n a 0) (words_from w n b 0) (i * w)) ∙ ap (λ (x : ℕ). x / 2 ^ (i * w)) e)
          ∙ word-is a s

-- what is known of the words of a set that is handed over
pub of_fits : {l : List ℕ} → ((k : ℕ) → Fits w64 (get_or l k 0)) → Words 64 l
of_fits f = record { small = λ k. (f k).fits }
