-- The groups of a number, by the tests that the code makes.
use Prim.Native.Nat.{ℕ, zero, suc, ◌+◌, ◌-◌, ◌*◌, ◌≤◌, ◌<◌}
use mathlib.Core.Path.{◌≡◌, refl, ap, ◌∙◌}
use mathlib.Core.List.{List, [], ◌∷◌}
use native.Mathlib.Omega.{arith}
use native.Mathlib.Nat.{le_refl}
use lib.ListN.{length, get_or, take, drop, length-drop}
use lib.Seq.{take_all}
use mir.Syntax.{w32}
use mir.Val.{Fits}
use borrow.Author.Tests.{lt-ltb, le-ltb, le-leb, lt-leb, eq-eqb, ne_eqb}
use Rattle.model.specs.Limits as m
use Rattle.model.specs.Reading.{byte, groups, num, num_up_to, num_below}
use Rattle.refusals.specs.declared.Refusal.{Refusal}
use Rattle.refusals.specs.declared.Refusal.TheVariants.{Layout, OverLimit}
use Rattle.refusals.specs.Refusing.{refusal_of}
use Rattle.numbers.specs.declared.Cursor.{Cursor}
use Rattle.std.specs.Prelude.{Result, Ok, Err}
use Rattle.numbers.specs.Answers.{beside, read_at}
use Rattle.numbers.specs.Limits.{most_image}
use Rattle.numbers.specs.Weights.{Weighed, second, third, fourth, fifth}
use Rattle.numbers.proofs.Tails.{num_tail}
use Rattle.numbers.proofs.Answering.{read_shape, gives, refuses, stops}

-- an image is as long as the model allows
pub image-is : most_image ≡ m.most_image
unfolding m.most_image
image-is = refl

-- `&s[k..]` is what is left of s behind k
pub part-from : (k : ℕ) (s : List ℕ) → take (length s - k) (drop k s) ≡ drop k s
part-from k s = take_all (length s - k) (drop k s) (rw length-drop (le_refl (length s - k)))

pub cons_of : (s : List ℕ) → (length s ≡ 0 → ⊥) → s ≡ get_or s 0 0 ∷ drop 1 s
cons_of [] h = absurd (h refl)
cons_of (b ∷ s) h = refl

-- one byte further on: the place, and the end
one_past : (at : ℕ) (s : List ℕ) → (length s ≡ 0 → ⊥) → at + length s - length (drop 1 s) ≡ at + 1
one_past at s h = rw length-drop (let p : 0 < length s = omega arith in omega arith)

same_end : (at : ℕ) (s : List ℕ) → (length s ≡ 0 → ⊥) → at + 1 + length (take (length s - 1) (drop 1 s)) ≡ at + length s
same_end at s h = rw (part-from, length-drop) (let p : 0 < length s = omega arith in omega arith)

pub rest-fits : (at : ℕ) (s : List ℕ) {m : ℕ} → (length s ≡ 0 → ⊥) → at + length s ≤ m → at + 1 + length (take (length s - 1) (drop 1 s)) ≤ m
rest-fits at s h k = rw (same_end at s h) k

-- one fewer is left
pub one_less : {left t : ℕ} → left ≡ t → (left ≡ 0 → ⊥) → left - 1 < t
one_less e h = omega arith

-- ---- what the groups add to fits

pub weighed_first : {b : ℕ} → b < 256 → Weighed 3 128 (b - 128)
weighed_first {b} h = let k : b - 128 < 128 = omega arith in second k

pub weighed_more : {left w n b : ℕ} → Weighed left w n → (left ≡ 0 → ⊥) → b < 256 → Weighed (left - 1) (w * 128) (n + (b - 128) * w)
weighed_more {n = n} {b = b} (second h) e k = let l : n + (b - 128) * 128 < 16384 = omega arith in third l
weighed_more {n = n} {b = b} (third h) e k = let l : n + (b - 128) * 16384 < 2097152 = omega arith in fourth l
weighed_more {n = n} {b = b} (fourth h) e k = let l : n + (b - 128) * 2097152 < 268435456 = omega arith in fifth l
weighed_more (fifth h) e k = absurd (e refl)

module _ {left w n b : ℕ} (h : Weighed left w n) where
  last-small : b < 128 → (left ≡ 0 → b ≤ 15) → n + b * w < 4294967296
  last-small k e = go h k e
    where
      go : {left w n b : ℕ} → Weighed left w n → b < 128 → (left ≡ 0 → b ≤ 15) → n + b * w < 4294967296
      go (second h) k e = omega arith
      go (third h) k e = omega arith
      go (fourth h) k e = omega arith
      go (fifth h) k e = let l = e refl in omega arith

  more-small : (left ≡ 0 → ⊥) → b < 256 → (n + (b - 128) * w < 4294967296) × (w * 128 < 4294967296)
  more-small e k = go h e k
    where
      go : {left w n b : ℕ} → Weighed left w n → (left ≡ 0 → ⊥) → b < 256 → (n + (b - 128) * w < 4294967296) × (w * 128 < 4294967296)
      go (second h) e k = (omega arith, omega arith)
      go (third h) e k = (omega arith, omega arith)
      go (fourth h) e k = (omega arith, omega arith)
      go (fifth h) e k = absurd (e refl)

  pub fifth_product : b ≤ 15 → Fits w32 (b * w)
  fifth_product k = record { fits = let l = last-small (omega arith) (λ e. k) in omega arith }

  pub fifth_sum : b ≤ 15 → Fits w32 (n + b * w)
  fifth_sum k = record { fits = last-small (omega arith) (λ e. k) }

  module _ (e : left ≡ 0 → ⊥) where
    pub last_product : b < 128 → Fits w32 (b * w)
    last_product k = record { fits = let l = last-small k (λ z. absurd (e z)) in omega arith }

    pub last_sum : b < 128 → Fits w32 (n + b * w)
    last_sum k = record { fits = last-small k (λ z. absurd (e z)) }

    pub more_product : b < 256 → Fits w32 ((b - 128) * w)
    more_product k = record { fits = let l = (more-small e k).0 in omega arith }

    pub more_sum : b < 256 → Fits w32 (n + (b - 128) * w)
    more_sum k = record { fits = (more-small e k).0 }

pub more-weight : {left w n : ℕ} → Weighed left w n → (left ≡ 0 → ⊥) → Fits w32 (w * 128)
more-weight h e = record { fits = (more-small {b = 0} h e (omega arith)).1 }

-- ---- the groups after the first

module _ (at left w n : ℕ) where
  pub groups_none : (s : List ℕ) → length s ≡ 0 → Err Layout ≡ read_at (at + length s) (groups left w n s)
  unfolding groups byte
  groups_none [] e = go left
    where
      go : (k : ℕ) → Err Layout ≡ read_at (at + 0) (groups k w n [])
      go zero = refl
      go (suc k) = refl
  groups_none (b ∷ s) e = absurd (omega arith)

  module _ (s : List ℕ) (some : length s ≡ 0 → ⊥) where
    first : groups left w n s ≡ groups left w n (get_or s 0 0 ∷ drop 1 s)
    first = ap (groups left w n) (cons_of s some)

    module _ (e : left ≡ 0) where
      pub fifth-over : 15 < get_or s 0 0 → Err OverLimit ≡ read_at (at + length s) (groups left w n s)
      unfolding groups byte
      fifth-over h = rw (first, e, lt-leb (get_or s 0 0) 15 h)

      pub fifth-zero : get_or s 0 0 ≤ 15 → get_or s 0 0 ≡ 0 → Err Layout ≡ read_at (at + length s) (groups left w n s)
      unfolding groups byte
      fifth-zero h z = rw (first, e, le-leb (get_or s 0 0) 15 h, eq-eqb (get_or s 0 0) 0 z)

      pub fifth-last : get_or s 0 0 ≤ 15 → (get_or s 0 0 ≡ 0 → ⊥) → Ok (n + get_or s 0 0 * w, record { at = at + 1 }) ≡ read_at (at + length s) (groups left w n s)
      unfolding groups byte
      fifth-last h z = rw (first, e, le-leb (get_or s 0 0) 15 h, ne_eqb (get_or s 0 0) 0 z, one_past at s some)

    module _ (e : left ≡ 0 → ⊥) where
      more : groups left w n s ≡ groups (suc (left - 1)) w n (get_or s 0 0 ∷ drop 1 s)
      more = first ∙ (let p : left ≡ suc (left - 1) = omega arith in ap (λ (k : ℕ). groups k w n (get_or s 0 0 ∷ drop 1 s)) p)

      pub group-zero : get_or s 0 0 ≡ 0 → Err Layout ≡ read_at (at + length s) (groups left w n s)
      unfolding groups byte
      group-zero z = rw (more, lt-ltb (get_or s 0 0) 128 (omega arith), eq-eqb (get_or s 0 0) 0 z)

      pub group-last : (get_or s 0 0 ≡ 0 → ⊥) → get_or s 0 0 < 128 → Ok (n + get_or s 0 0 * w, record { at = at + 1 }) ≡ read_at (at + length s) (groups left w n s)
      unfolding groups byte
      group-last z h = rw (more, lt-ltb (get_or s 0 0) 128 h, ne_eqb (get_or s 0 0) 0 z, one_past at s some)

      pub group-more : 128 ≤ get_or s 0 0 → {r : Result (ℕ × Cursor) Refusal}
          → r ≡ read_at (at + 1 + length (take (length s - 1) (drop 1 s))) (groups (left - 1) (w * 128) (n + (get_or s 0 0 - 128) * w) (take (length s - 1) (drop 1 s)))
          → r ≡ read_at (at + length s) (groups left w n s)
      unfolding groups byte
      group-more h a = rw (more, le-ltb (get_or s 0 0) 128 h) (rw (same_end at s some, part-from) at a)

-- ---- the first

module _ (at : ℕ) where
  pub num-none : (s : List ℕ) → length s ≡ 0 → Err Layout ≡ read_at (at + length s) (num s)
  unfolding num byte
  num-none [] e = refl
  num-none (b ∷ s) e = absurd (omega arith)

  module _ (s : List ℕ) (some : length s ≡ 0 → ⊥) where
    num-first : num s ≡ num (get_or s 0 0 ∷ drop 1 s)
    num-first = ap num (cons_of s some)

    pub num-one : get_or s 0 0 < 128 → Ok (get_or s 0 0, record { at = at + 1 }) ≡ read_at (at + length s) (num s)
    unfolding num byte
    num-one h = rw (num-first, lt-ltb (get_or s 0 0) 128 h, one_past at s some)

    pub num-more : 128 ≤ get_or s 0 0 → {r : Result (ℕ × Cursor) Refusal}
        → r ≡ read_at (at + 1 + length (take (length s - 1) (drop 1 s))) (groups 3 128 (get_or s 0 0 - 128) (take (length s - 1) (drop 1 s)))
        → r ≡ read_at (at + length s) (num s)
    unfolding num byte
    num-more h a = rw (num-first, le-ltb (get_or s 0 0) 128 h) (rw (same_end at s some, part-from) at a)

-- ---- a number with a limit

module _ (at : ℕ) (s : List ℕ) {r : Result (ℕ × Cursor) Refusal} (h : r ≡ read_at (at + length s) (num s)) where
  module _ {n : ℕ} {past : Cursor} (e : r ≡ Ok (n, past)) where
    pub up_to-yes : (f : Refusal) (m : ℕ) → n ≤ m → Ok (n, past) ≡ read_at (at + length s) (num_up_to (refusal_of f) m s)
    unfolding num_up_to
    up_to-yes f m l = gives read_shape beside at (num s) _ h e (num_tail s) (λ u. rw (le-leb n m l))

    pub up_to-no : (f : Refusal) (m : ℕ) → m < n → Err f ≡ read_at (at + length s) (num_up_to (refusal_of f) m s)
    unfolding num_up_to
    up_to-no f m l = refuses read_shape beside at (num s) _ h e (num_tail s) (λ u. rw (lt-leb n m l))

    pub below-yes : (m : ℕ) → n < m → Ok (n, past) ≡ read_at (at + length s) (num_below m s)
    unfolding num_below
    below-yes m l = gives read_shape beside at (num s) _ h e (num_tail s) (λ u. rw (lt-ltb n m l))

    pub below-no : (m : ℕ) → m ≤ n → Err Layout ≡ read_at (at + length s) (num_below m s)
    unfolding num_below
    below-no m l = refuses read_shape beside at (num s) _ h e (num_tail s) (λ u. rw (le-ltb n m l))

  module _ {f : Refusal} (e : r ≡ Err f) where
    pub up_to-stops : (c : Refusal) (m : ℕ) → Err f ≡ read_at (at + length s) (num_up_to (refusal_of c) m s)
    unfolding num_up_to
    up_to-stops c m = stops read_shape beside (at + length s) (num s) _ h e

    pub below-stops : (m : ℕ) → Err f ≡ read_at (at + length s) (num_below m s)
    unfolding num_below
    below-stops m = stops read_shape beside (at + length s) (num s) _ h e

pub ruleset number_laws = (part-from, rest-fits, one_less, weighed_first, weighed_more, fifth_product, fifth_sum, last_product, last_sum, more_product, more_sum, more-weight, groups_none, fifth-over, fifth-zero, fifth-last, group-zero, group-last, group-more, num-none, num-one, num-more, up_to-yes, up_to-no, up_to-stops, below-yes, below-no, below-stops)
