-- The words of the code, by the tests that the code makes.
use Prim.Native.Nat.{ℕ, ◌+◌, ◌*◌, ◌≤◌, ◌<◌}
use mathlib.Core.Path.{◌≡◌, refl, ap, ◌∙◌}
use mathlib.Core.Bool.{Bool, true, false}
use mathlib.Core.List.{List, [], ◌∷◌, ◌++◌, append-nil}
use native.Mathlib.Omega.{arith}
use lib.Dec.{eqb}
use lib.ListN.{length, get_or, set, length-append}
use lib.Seq.{sets}
use borrow.Author.Tests.{eq-eqb, ne_eqb}
use Rattle.model.specs.Choice.{when◌then◌else◌}
use Rattle.bits.specs.declared.Token.{Token}
use Rattle.wiring.specs.Words.{operands, most_words, join_number, place_word, others_of, turn_of, join_word, ending_of}
use Rattle.wiring.specs.declared.words.Join.{Join}
use Rattle.wiring.specs.declared.words.Join.TheVariants.{Load, Series, Parallel}
use Rattle.wiring.proofs.Runs.{sets_more}

module _ (table : List ℕ) (p b : ℕ) (t : Token) {w : ℕ} where
  pub place-bit : {a : ℕ} → t.tag ≡ 0 → a ≡ get_or table t.content 0 → w ≡ b * operands + a → w ≡ place_word table p b t
  unfolding place_word
  place-bit z e q = rw (eq-eqb t.tag 0 z, ← e) q

  pub place-point : (t.tag ≡ 0 → ⊥) → w ≡ p * operands + t.content → w ≡ place_word table p b t
  unfolding place_word
  place-point z q = rw (ne_eqb t.tag 0 z) q

pub others-and : (n : ℕ) → n ≡ 0 → 1 ≡ others_of n
unfolding others_of
others-and n e = rw (eq-eqb n 0 e)

pub others-or : (n : ℕ) → (n ≡ 0 → ⊥) → 2 ≡ others_of n
unfolding others_of
others-or n h = rw (ne_eqb n 0 h)

-- ---- `not`

module _ (n count : ℕ) where
  pub turn_count : {r : ℕ} → n ≡ 2 → r ≡ count + 1 → r ≡ count + length (turn_of n)
  unfolding turn_of
  turn_count e q = rw (eq-eqb n 2 e) q

  pub turn_code : (code : List ℕ) {code' : List ℕ} {w : ℕ} → n ≡ 2 → w ≡ 8 * operands + 0 → code' ≡ set code count w → code' ≡ sets code count (turn_of n)
  unfolding turn_of
  turn_code code e q c = rw (eq-eqb n 2 e) (c ∙ ap (λ (z : ℕ). set code count z) q)

  pub straight_count : {r : ℕ} → (n ≡ 2 → ⊥) → r ≡ count → r ≡ count + length (turn_of n)
  unfolding turn_of
  straight_count {r} h e = rw (ne_eqb n 2 h) (let q : r ≡ count + 0 = omega arith in q)

  pub straight_code : (code : List ℕ) {code' : List ℕ} → (n ≡ 2 → ⊥) → code' ≡ code → code' ≡ sets code count (turn_of n)
  unfolding turn_of
  straight_code code h e = rw (ne_eqb n 2 h) e

pub turn_few : (n : ℕ) → length (turn_of n) ≤ 1
unfolding turn_of
turn_few n = go (eqb n 2)
  where
    go : (b : Bool) → length {A = ℕ} (when b then 8192 ∷ [] else []) ≤ 1
    go true = omega arith
    go false = omega arith

-- ---- behind the parts

pub no_load : (j : Join) → (j ≡ Load → ⊥) → join_number j ≡ 0 → ⊥
no_load Load h e = h refl
no_load Series h e = omega arith
no_load Parallel h e = omega arith

module _ (n join count : ℕ) {turned : ℕ} (t : turned ≡ count + length (turn_of n)) where
  pub turned_few : count + 2 ≤ most_words → turned < most_words
  turned_few h = omega (arith, turn_few n)

  pub load-count : join ≡ 0 → turned ≡ count + length (ending_of n join)
  unfolding ending_of join_word
  load-count e = rw (eq-eqb join 0 e, append-nil (turn_of n)) t

  pub join-count : {r : ℕ} → (join ≡ 0 → ⊥) → r ≡ turned + 1 → r ≡ count + length (ending_of n join)
  unfolding ending_of join_word
  join-count {r} h e = rw (ne_eqb join 0 h) (let l = length-append (turn_of n) ((5 + join) * operands ∷ []) in let q : r ≡ count + length (turn_of n ++ (5 + join) * operands ∷ []) = omega arith in q)

  module _ (code : List ℕ) {code' : List ℕ} (c : code' ≡ sets code count (turn_of n)) where
    pub load_code : join ≡ 0 → code' ≡ sets code count (ending_of n join)
    unfolding ending_of join_word
    load_code e = rw (eq-eqb join 0 e, append-nil (turn_of n)) c

    pub join-code : {code'' : List ℕ} {w k : ℕ} → (join ≡ 0 → ⊥) → k ≡ 5 + join → w ≡ k * operands + 0 → code'' ≡ set code' turned w → code'' ≡ sets code count (ending_of n join)
    unfolding ending_of join_word
    join-code {code''} {w} {k} h i q d =
        let z : w ≡ (5 + join) * operands = omega arith in
        rw (ne_eqb join 0 h, ← sets_more code count (turn_of n) ((5 + join) * operands ∷ []), ← c, ← t, ← z) d
