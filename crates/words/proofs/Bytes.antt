-- The bytes of words, by the tests that the code makes.
use Prim.Native.Nat.{ℕ, zero, suc, ◌+◌, ◌<◌}
use mathlib.Core.Path.{◌≡◌, refl, sym, ap, ◌∙◌}
use mathlib.Core.List.{List, [], ◌∷◌}
use mathlib.Core.Bool.{Bool, true, false, ◌&&◌}
use native.Mathlib.Omega.{arith}
use native.Mathlib.Numerals.{add-one}
use lib.ListN.{length, get_or, drop}
use lib.Seq.{drop-cons}
use lib.Dec.{eqb}
use Rattle.std.specs.Prelude.{nat_eq}
use Rattle.std.specs.Bool.{MatchBool}
use Rattle.std.specs.List.{AllWithin, HoldsAt}
use Rattle.std.specs.Cmp.Lexicographic.{pointwise}
use Rattle.model.specs.Reading.{word_byte, first_byte, all_word_bytes, good_word, same_bytes}

-- from a place of a word on
pub at-cons : (s : List ℕ) (i : ℕ) → i < length s → drop i s ≡ get_or s i 0 ∷ drop (i + 1) s
at-cons s i h = rw (add-one, drop-cons s i 0)

-- ---- runs of bytes

and-false : (t : Bool) {u : Bool} → u ≡ false → (t && u) ≡ false
and-false true e = e
and-false false e = refl

all_true : (w : List ℕ) → ((k : ℕ) → k < length w → word_byte (get_or w k 0) ≡ true) → true ≡ all_word_bytes w
unfolding all_word_bytes
all_true [] h = refl
all_true (b ∷ w) h = rw (h 0 (omega arith)) (all_true w (λ k l. h (suc k) (omega arith)))

all_false : (w : List ℕ) (k : ℕ) → k < length w → word_byte (get_or w k 0) ≡ false → false ≡ all_word_bytes w
unfolding all_word_bytes
all_false [] k l e = absurd (omega arith)
all_false (b ∷ w) zero l e = rw e
all_false (b ∷ w) (suc k) l e = sym (and-false (word_byte b) (sym (all_false w k (omega arith) e)))

pub all_from_cases : (w : List ℕ) (r : Bool) → MatchBool r (AllWithin (λ b. word_byte b ≡ true) w 0 (length w)) ((k : ℕ) × (k < length w) × HoldsAt (λ b. word_byte b ≡ false) w k) → r ≡ all_word_bytes w
all_from_cases w true h = all_true w (λ k l. h k 0 (omega arith) l)
all_from_cases w false h = all_false w h.0 h.1 (h.2 0)

pub same_is : (a b : List ℕ) {r : Bool} → r ≡ pointwise nat_eq a b → r ≡ same_bytes a b
unfolding same_bytes
same_is a b h = h ∙ agree a b
  where
    agree : (a b : List ℕ) → pointwise nat_eq a b ≡ same_bytes a b
    agree [] [] = refl
    agree [] (b ∷ bs) = refl
    agree (a ∷ xs) [] = refl
    agree (a ∷ xs) (b ∷ bs) = ap (λ (t : Bool). eqb a b && t) (agree xs bs)

-- ---- a whole word

pub good-empty : (w : List ℕ) → length w ≡ 0 → false ≡ good_word w
unfolding good_word
good-empty [] e = refl
good-empty (b ∷ w) e = absurd (omega arith)

pub good-first : (w : List ℕ) {f r : Bool} → (length w ≡ 0 → ⊥) → f ≡ first_byte (get_or w 0 0) → f ≡ true → r ≡ all_word_bytes w → r ≡ good_word w
unfolding good_word
good-first [] n e t h = absurd (n refl)
good-first (b ∷ w) n e t h = rw (sym e ∙ t) h

pub good_not_first : (w : List ℕ) {f : Bool} → (length w ≡ 0 → ⊥) → f ≡ first_byte (get_or w 0 0) → f ≡ false → false ≡ good_word w
unfolding good_word
good_not_first [] n e t = absurd (n refl)
good_not_first (b ∷ w) n e t = rw (sym e ∙ t)

pub ruleset good_laws = (good-empty, good-first, good_not_first)
