-- Filling a buffer, and looking through one.
use Prim.Native.Nat.{ℕ, zero, suc, ◌-◌, ◌*◌, ◌≤◌, ◌<◌}
use mathlib.Core.Path.{◌≡◌, refl, sym, ◌∙◌}
use mathlib.Core.List.{List, [], ◌∷◌}
use mathlib.Core.Bool.{Bool, true, false, ◌&&◌}
use native.Mathlib.Omega.{arith}
use mir.Syntax.{w32, w64}
use mir.Val.{Fits}
use lib.Dec.{eqb}
use lib.ListN.{length, take, drop, get_or}
use lib.Seq.{length-take-le}
use borrow.Author.Tests.{eq-eqb, ne_eqb, le-leb, lt-leb}
use Rattle.std.specs.Bool.{MatchBool}
use Rattle.std.specs.List.{AllWithin, HoldsAt}
use Rattle.model.specs.Limits.{words_per_unit}
use Rattle.numbers.proofs.Reading.{part-from}
use Rattle.answer_line.specs.Format.{word_fill, all_are, is_clear}

-- ---- looking through

every : (v : ℕ) (l : List ℕ) → AllWithin (λ x. x ≡ v) l 0 (length l) → true ≡ all_are v l
unfolding all_are
every v [] a = refl
every v (x ∷ l) a =
    let rest = every v l (λ k d g h. a (suc k) d (omega arith) (omega arith)) in
    simp (eq-eqb x v (a 0 0 (omega arith) (omega arith))) rest

one-other : (v : ℕ) (l : List ℕ) (k : ℕ) → k < length l → (get_or l k 0 ≡ v → ⊥) → false ≡ all_are v l
unfolding all_are
one-other v [] k h d = absurd (omega arith)
one-other v (x ∷ l) zero h d = simp (ne_eqb x v d)
one-other v (x ∷ l) (suc k) h d = by (eqb x v) (all_are v l) (one-other v l k (omega arith) d)
  where
    by : (t u : Bool) → false ≡ u → false ≡ (t && u)
    by true u e = e
    by false u e = refl

pub looked_through : (v : ℕ) (l : List ℕ) (r : Bool) → MatchBool r (AllWithin (λ x. x ≡ v) l 0 (length l)) ((k : ℕ) × (k < length l) × HoldsAt (λ x. x ≡ v → ⊥) l k) → r ≡ all_are v l
looked_through v l true a = every v l a
looked_through v l false (k, h, d) = one-other v l k h (d 0)

-- ---- clear

module _ (l : List ℕ) (budget : ℕ) where
  pub clear-fits : Fits w32 budget → Fits w64 (40 * budget)
  clear-fits h = omega arith

  pub front_long : 40 * budget ≤ length l → 40 * budget ≡ length (take (40 * budget) l)
  front_long h = sym (length-take-le (40 * budget) l h)

  pub clear-short : length l < 40 * budget → false ≡ is_clear budget l
  unfolding is_clear words_per_unit
  clear-short h = simp (lt-leb (40 * budget) (length l) h)

  pub clear-front : {f : Bool} → 40 * budget ≤ length l → f ≡ all_are 0 (take (40 * budget) l) → f ≡ false → f ≡ is_clear budget l
  unfolding is_clear words_per_unit
  clear-front h e q = q ∙ simp (le-leb (40 * budget) (length l) h, sym e, q)

  pub clear-rest : {f g : Bool} → 40 * budget ≤ length l → f ≡ all_are 0 (take (40 * budget) l) → f ≡ true → g ≡ all_are word_fill (take (length l - 40 * budget) (drop (40 * budget) l))
      → g ≡ is_clear budget l
  unfolding is_clear words_per_unit
  clear-rest h e q r = simp (le-leb (40 * budget) (length l) h, sym e, q, ← part-from (40 * budget) l, sym r)

pub ruleset buffer_laws = (clear-fits, front_long, clear-short, clear-front, clear-rest)
