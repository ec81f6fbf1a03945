-- How many members a set has: word by word, and in a word from its low digit up.
use mathlib.Core.Path.{◌≡◌, refl, sym, ap, ap₂, ◌∙◌}
use mathlib.Core.Bool.{Bool, true, false}
use mathlib.Core.List.{List, []}
use Prim.Native.Nat.{ℕ, zero, suc, ◌+◌, ◌-◌, ◌*◌, ◌/◌, ◌%◌, ◌^◌, ◌≤◌, ◌<◌}
use native.Mathlib.Nat.{zero-add, suc-add, add_comm, div-one, mod-eq_of_lt, div-eq_of_lt}
use native.Mathlib.Omega.{arith}
use lib.Count.{ones, ones_step}
use lib.Dec.{eqb}
use lib.ListN.{length, get_or}
use lib.Pow.{shr-shr, field, mod-mod-pow}
use borrow.Author.Tests.{eqb-true}
use Rattle.model.specs.Limits.{most_scopes}
use Rattle.model.specs.Scopes.{keep, members_from, members}
use Rattle.laws.proofs.Members.{members-none}
use Rattle.scopes.specs.Sets.{word_digits, words_from, set_words, set_scopes, most_long, long_members}
use Rattle.scopes.proofs.Words.{Words, words-low, words_above}
use Rattle.scopes.proofs.Order.{digit-one, half_less}

length-keep : (m n : ℕ) (l : List ℕ) → length (keep (eqb (m % 2) 1) n l) ≡ m % 2 + length l
unfolding keep
length-keep m n l = go (eqb (m % 2) 1) refl
  where
    go : (t : Bool) → eqb (m % 2) 1 ≡ t → length (keep t n l) ≡ m % 2 + length l
    go true e = let o = eqb-true (m % 2) 1 e in omega arith
    go false e = let z = digit-one m e in omega arith

-- the digits of a word that are 1, counted from 1
abbrev word_members : ℕ → List ℕ
word_members w = members_from word_digits 1 w

-- they are as many as the digits that are 1
length-members : (d n x : ℕ) → x < 2 ^ d → length (members_from d n x) ≡ ones x
unfolding members_from ones
length-members zero n x h = let e : 2 ^ 0 ≡ 1 = refl in let z : x ≡ 0 = omega (arith, e) in ap ones (sym z)
length-members (suc d) n x h = length-keep x n (members_from d (suc n) (x / 2)) ∙ ap (λ (k : ℕ). x % 2 + k) (length-members d (suc n) (x / 2) (half_less d x h)) ∙ sym (ones_step x)

ones-word : {w o : ℕ} → w < 2 ^ 64 → o ≡ ones w → o ≡ length (word_members w)
ones-word {w} h e = e ∙ sym (length-members 64 1 w h)

-- ---- the words in turn

-- where the first is counted from does not matter
length_from : (c m n x : ℕ) → length (members_from c m x) ≡ length (members_from c n x)
unfolding members_from
length_from zero m n x = refl
length_from (suc c) m n x =
    length-keep x m (members_from c (suc m) (x / 2))
    ∙ ap (λ (k : ℕ). x % 2 + k) (length_from c (suc m) (suc n) (x / 2))
    ∙ sym (length-keep x n (members_from c (suc n) (x / 2)))

-- the members among the d low digits, and those above
pub length_split : (d c n x : ℕ) → length (members_from (d + c) n x) ≡ length (members_from d n (x % 2 ^ d)) + length (members_from c n (x / 2 ^ d))
unfolding members_from
length_split zero c n x = rw (zero-add c, div-one x) (sym (zero-add (length (members_from c n x))))
length_split (suc d) c n x =
    let y = x % 2 ^ suc d in
    let same : y % 2 ≡ x % 2 = ap (λ (e : ℕ). x % 2 ^ e % 2) (let e : suc d ≡ d + 1 = omega arith in e) ∙ mod-mod-pow x d 1 in
    let half : y / 2 ≡ x / 2 % 2 ^ d = ap (λ (e : ℕ). x % 2 ^ e / 2) (let e : suc d ≡ d + 1 = omega arith in e) ∙ field x d 1 in
    let rest : x / 2 / 2 ^ d ≡ x / 2 ^ suc d = shr-shr x 1 d ∙ ap (λ (e : ℕ). x / 2 ^ e) (let e : 1 + d ≡ suc d = omega arith in e) in
    let ih = length_split d c (suc n) (x / 2) in
    let from : length (members_from c (suc n) (x / 2 / 2 ^ d)) ≡ length (members_from c n (x / 2 ^ suc d)) = length_from c (suc n) n (x / 2 / 2 ^ d) ∙ ap (λ (z : ℕ). length (members_from c n z)) rest in
    let low : length (members_from (suc d) n y) ≡ x % 2 + length (members_from d (suc n) (x / 2 % 2 ^ d)) =
    length-keep y n (members_from d (suc n) (y / 2)) ∙ ap₂ (λ (p q : ℕ). p + length (members_from d (suc n) q)) same half in
    let all : length (members_from (suc d + c) n x) ≡ x % 2 + length (members_from (d + c) (suc n) (x / 2)) =
    ap (λ (e : ℕ). length (members_from e n x)) (suc-add d c) ∙ length-keep x n (members_from (d + c) (suc n) (x / 2)) in
    omega arith

-- n members are counted in the i low words of l
pub record CountedWords (l : List ℕ) (i n : ℕ) : Type 0 where
  pub inside : i ≤ set_words
  pub few : n ≤ i * 64
  pub is : n ≡ length (members_from (i * 64) 1 (words_from 64 i l 0))

pub words-start : {l : List ℕ} → CountedWords l 0 0
unfolding words_from members_from
words-start = record { inside = omega arith; few = omega arith; is = refl }

module _ {l : List ℕ} {i n : ℕ} (w : CountedWords l i n) where
  pub words_more : {o : ℕ} → i < set_words → Words 64 l → o ≡ ones (get_or l i 0) → o ≤ 64 → CountedWords l (i + 1) (n + o)
  unfolding words_from
  words_more {o} h s e' f =
      let e : o ≡ length (word_members (get_or l i 0)) = ones-word (s.small i) e' in
      let x = words_from 64 (i + 1) l 0 in
      let low : x % 2 ^ (i * 64) ≡ words_from 64 i l 0 = words-low 64 i 1 l 0 s in
      let high : x / 2 ^ (i * 64) ≡ get_or l i 0 = words_above 64 i 1 l s ∙ zero-add (get_or l i 0) in
      let split = length_split (i * 64) 64 1 x in
      let a : length (members_from (i * 64) 1 (x % 2 ^ (i * 64))) ≡ n = ap (λ (z : ℕ). length (members_from (i * 64) 1 z)) low ∙ sym w.is in
      let b : length (members_from 64 1 (x / 2 ^ (i * 64))) ≡ o = ap (λ (z : ℕ). length (members_from 64 1 z)) high ∙ sym e in
      let d : i * 64 + 64 ≡ (i + 1) * 64 = omega arith in
      let t : length (members_from (i * 64 + 64) 1 x) ≡ length (members_from ((i + 1) * 64) 1 x) = ap (λ (z : ℕ). length (members_from z 1 x)) d in
      record { inside = omega arith; few = omega (arith, w.few); is = omega arith }

  pub words-room : {o : ℕ} → (o ≤ 64) → n + o < 4294967296
  words-room f = omega (arith, w.few, w.inside)

  pub words-few : n ≤ set_scopes
  words-few = omega (arith, w.few, w.inside)

  pub words-done : set_words ≤ i → n ≡ length (members (words_from 64 set_words l 0))
  unfolding members most_scopes
  words-done h = w.is ∙ ap (λ (k : ℕ). length (members_from (k * 64) 1 (words_from 64 k l 0))) (let e : i ≡ set_words = omega (arith, w.inside) in e)

pub ruleset counting_words = (words-start, words_more, words-room, words-few, words-done)

-- ---- the members from 128 on: the last digit of word 1, and the words above

-- a number has no member above its digits
length-short : (d c n x : ℕ) → x < 2 ^ d → length (members_from (d + c) n x) ≡ length (members_from d n x)
length-short d c n x h =
    let s = length_split d c n x in
    let a : x % 2 ^ d ≡ x = mod-eq_of_lt h in
    let b : x / 2 ^ d ≡ 0 = div_zero h in
    let k : length (members_from d n (x % 2 ^ d)) ≡ length (members_from d n x) = ap (λ (z : ℕ). length (members_from d n z)) a in
    let j : length (members_from c n (x / 2 ^ d)) ≡ 0 = ap (λ (z : ℕ). length (members_from c n z)) b ∙ ap length (members-none c n) in
    omega arith
  where
    div_zero : {y z : ℕ} → y < z → y / z ≡ 0
    div_zero {y} {z} g = div-eq_of_lt g

one-few : (n v : ℕ) → length (members_from 1 n v) ≤ 1
unfolding members_from keep
one-few n v = go (eqb (v % 2) 1)
  where
    go : (q : Bool) → length (keep q n []) ≤ 1
    go true = omega arith
    go false = omega arith

-- a word without its 63 low digits has one digit
module _ (w : ℕ) (h : w < 2 ^ 64) where
  top_small : w / 2 ^ 63 < 2 ^ 1
  top_small = omega arith

  top-counted : length (word_members (w / 2 ^ 63)) ≡ length (members_from 1 128 (w / 2 ^ 63))
  top-counted = length-short 1 63 1 (w / 2 ^ 63) top_small ∙ length_from 1 1 128 (w / 2 ^ 63)

-- n of them are counted in the i low words of l
pub record CountedLong (l : List ℕ) (i n : ℕ) : Type 0 where
  pub from : 2 ≤ i
  pub inside : i ≤ set_words
  pub few : n ≤ i * 64 - 127
  pub is : n ≡ length (members_from (i * 64 - 127) 128 (words_from 64 i l 0 / 2 ^ 127))

pub long-start : {l : List ℕ} {n : ℕ} → Words 64 l → n ≡ ones (get_or l 1 0 / 2 ^ 63) → CountedLong l 2 n
unfolding words_from
long-start {l} {n} s e = record { from = omega arith; inside = omega arith; few = few-one _ counted; is = counted ∙ ap (λ (v : ℕ). length (members_from 1 128 v)) (sym top) }
  where
    counted : n ≡ length (members_from 1 128 (get_or l 1 0 / 2 ^ 63))
    counted = ones-word (omega (arith, s.small 1)) e ∙ top-counted (get_or l 1 0) (s.small 1)

    few-one : (v : ℕ) → n ≡ length (members_from 1 128 v) → n ≤ 1
    few-one v g = omega (arith, one-few 128 v)

    top : words_from 64 2 l 0 / 2 ^ 127 ≡ get_or l 1 0 / 2 ^ 63
    top = sym (shr-shr (words_from 64 2 l 0) 64 63) ∙ ap (λ (v : ℕ). v / 2 ^ 63) (words_above 64 1 1 l s ∙ zero-add (get_or l 1 0))

module _ {l : List ℕ} {i n : ℕ} (w : CountedLong l i n) where
  -- the digits counted so far end where word i begins
  begins : i * 64 - 127 + 127 ≡ i * 64
  begins = omega (arith, w.from)

  pub long-more : {o : ℕ} → i < set_words → Words 64 l → o ≡ ones (get_or l i 0) → o ≤ 64 → CountedLong l (i + 1) (n + o)
  unfolding words_from
  long-more {o} h s e' f = record { from = omega (arith, w.from); inside = omega arith; few = omega (arith, w.few, w.from); is = sym total }
    where
      e : o ≡ length (word_members (get_or l i 0))
      e = ones-word (s.small i) e'

      d : ℕ
      d = i * 64 - 127

      y : ℕ
      y = words_from 64 (i + 1) l 0

      low : y / 2 ^ 127 % 2 ^ d ≡ words_from 64 i l 0 / 2 ^ 127
      low = sym (field y d 127) ∙ ap (λ (k : ℕ). y % 2 ^ k / 2 ^ 127) begins ∙ ap (λ (v : ℕ). v / 2 ^ 127) (words-low 64 i 1 l 0 s)

      high : y / 2 ^ 127 / 2 ^ d ≡ get_or l i 0
      high = shr-shr y 127 d ∙ ap (λ (k : ℕ). y / 2 ^ k) (add_comm 127 d ∙ begins) ∙ words_above 64 i 1 l s ∙ zero-add (get_or l i 0)

      more : (i + 1) * 64 - 127 ≡ d + 64
      more = omega (arith, w.from)

      total : length (members_from ((i + 1) * 64 - 127) 128 (y / 2 ^ 127)) ≡ n + o
      total =
          ap (λ (k : ℕ). length (members_from k 128 (y / 2 ^ 127))) more
          ∙ length_split d 64 128 (y / 2 ^ 127)
          ∙ ap₂ (λ (p q : ℕ). p + q) (ap (λ (v : ℕ). length (members_from d 128 v)) low ∙ sym w.is)
          (ap (λ (v : ℕ). length (members_from 64 128 v)) high ∙ length_from 64 128 1 (get_or l i 0) ∙ sym e)

  pub long-room : {o : ℕ} → o ≤ 64 → n + o < 4294967296
  long-room f = omega (arith, w.few, w.inside)

  pub long-few : n ≤ most_long
  long-few = omega (arith, w.few, w.inside)

  pub long-done : set_words ≤ i → n ≡ length (long_members (words_from 64 set_words l 0))
  long-done h = w.is ∙ ap (λ (k : ℕ). length (members_from (k * 64 - 127) 128 (words_from 64 k l 0 / 2 ^ 127))) (let e : i ≡ set_words = omega (arith, w.inside) in e)

pub ruleset counting_long = (long-start, long-more, long-room, long-few, long-done)
