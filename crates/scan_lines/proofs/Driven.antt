-- The points with a mark, one after another, and the list of them.
use Prim.Native.Nat.{ℕ, zero, suc, ◌+◌, ◌-◌, ◌≤◌, ◌<◌}
use mathlib.Core.Path.{◌≡◌, refl, ap, ◌∙◌, sym}
use mathlib.Core.Bool.{Bool, true, false}
use mathlib.Core.List.{List, [], ◌∷◌, ◌++◌, append_assoc, append-nil}
use native.Mathlib.Omega.{arith}
use native.Mathlib.Numerals.{add-one}
use lib.Dec.{eqb}
use lib.ListN.{length, get_or, take, set, length-set}
use lib.Seq.{take-suc-set}
use Rattle.std.proofs.lemmas.List.{length-take-le}
use borrow.Author.Tests.{eq-eqb, ne_eqb}
use Rattle.model.specs.Choice.{when◌then◌else◌}
use Rattle.bits.specs.Meeting.{points}
use Rattle.scan_lines.specs.Lines.{marked, marked_places, Listed, Lists, Points}

one_fewer : (i : ℕ) → i < points → points - i ≡ suc (points - suc i)
one_fewer i h = omega arith

pub marked-first : (marks : List ℕ) (i : ℕ) → i < points
    → marked (points - i) i marks ≡ (when eqb (get_or marks i 0) 0 then marked (points - suc i) (suc i) marks else i ∷ marked (points - suc i) (suc i) marks)
unfolding marked
marked-first marks i h = ap (λ (c : ℕ). marked c i marks) (one_fewer i h)

pub marked-end : (marks : List ℕ) (i : ℕ) → points ≤ i → marked (points - i) i marks ≡ []
unfolding marked
marked-end marks i h = let e : points - i ≡ 0 = omega arith in ap (λ (c : ℕ). marked c i marks) e

-- ---- the marks of all points, which a loop goes over

module _ (marks : List ℕ) (l : points ≤ length marks) {i : ℕ} where
  pub below-all : i < length (take points marks) → i < points
  below-all h = let e = length-take-le points marks l in omega arith

  pub past-all : length (take points marks) ≤ i → points ≤ i
  past-all h = let e = length-take-le points marks l in omega arith

-- ---- one point

module _ {mark : ℕ} (x : ℕ) (places : List ℕ) (n : ℕ) where
  pub unlisted : mark ≡ 0 → Listed mark x places places n n
  unlisted e = record { same = refl; few = omega arith; is = rw (eq-eqb mark 0 e) }

  pub listed : (mark ≡ 0 → ⊥) → n < length places → Listed mark x places (set places n x) n (n + 1)
  listed m h = record { same = length-set places n x; few = omega arith; is = rw (ne_eqb mark 0 m, add-one n) (take-suc-set places n x h) }

pub ruleset point_listed_laws = (unlisted, listed)

-- ---- all of them

-- where those below point i are listed
pub record Listing (marks places₀ places : List ℕ) (n i : ℕ) : Type 0 where
  pub within : i ≤ points
  pub few : n ≤ i
  pub same : length places ≡ length places₀
  pub is : take n places ++ marked (points - i) i marks ≡ marked_places marks

whole : (marks : List ℕ) → marked points 0 marks ≡ marked_places marks
unfolding marked_places
whole marks = refl

pub listing_begun : {marks places : List ℕ} → Listing marks places places 0 0
listing_begun {marks} = record { within = omega arith; few = omega arith; same = refl; is = whole marks }

module _ {marks places₀ places : List ℕ} {n i : ℕ} (w : Listing marks places₀ places n i) where
  pub place-free : points ≤ length places₀ → i < points → n < length places
  place-free l h = let f = w.few in let s = w.same in omega arith

  pub listing_more : {places' : List ℕ} {r : ℕ} → i < points → Listed (get_or marks i 0) i places places' n r → Listing marks places₀ places' r (i + 1)
  listing_more {places'} {r} h d =
      let f = w.few in let g = d.few in
      rw (add-one i)
      (record {
        within = h;
        few = omega arith;
        same = d.same ∙ w.same;
        is = by (eqb (get_or marks i 0) 0) d.is (ap (λ (l : List ℕ). take n places ++ l) (marked-first marks i h)) ∙ w.is;
      })
    where
      rest : List ℕ
      rest = marked (points - suc i) (suc i) marks

      by : (t : Bool) → take r places' ≡ (when t then take n places else take n places ++ (i ∷ []))
          → take n places ++ marked (points - i) i marks ≡ take n places ++ (when t then rest else i ∷ rest)
          → take r places' ++ rest ≡ take n places ++ marked (points - i) i marks
      by true e q = ap (λ (l : List ℕ). l ++ rest) e ∙ sym q
      by false e q = ap (λ (l : List ℕ). l ++ rest) e ∙ append_assoc (take n places) (i ∷ []) rest ∙ sym q

  pub listing_ended : points ≤ length places₀ → points ≤ i → Lists marks places n
  listing_ended l h = record {
    within = let a = w.within in let f = w.few in let s = w.same in omega arith;
    is = sym (append-nil (take n places)) ∙ ap (λ (m : List ℕ). take n places ++ m) (sym (marked-end marks i h)) ∙ w.is;
  }

pub ruleset listing_laws = (listing_begun, place-free, listing_more, listing_ended)

-- ---- each is a point

marked-below : (marks : List ℕ) (c x : ℕ) → x + c ≤ points → (i : ℕ) → get_or (marked c x marks) i 0 < points
unfolding marked
marked-below marks zero x h i = none i
  where
    none : (i : ℕ) → get_or [] i 0 < points
    none zero = omega arith
    none (suc j) = omega arith
marked-below marks (suc c) x h i = by (eqb (get_or marks x 0) 0) i (marked-below marks c (suc x) (omega arith))
  where
    by : (t : Bool) (i : ℕ) → ((j : ℕ) → get_or (marked c (suc x) marks) j 0 < points)
        → get_or (when t then marked c (suc x) marks else x ∷ marked c (suc x) marks) i 0 < points
    by true i q = q i
    by false zero q = omega arith
    by false (suc j) q = q j

pub listed-points : {marks places : List ℕ} {r : ℕ} → Lists marks places r → Points (take r places)
unfolding marked_places
listed-points {marks} w = record { below = λ i. rw w.is (marked-below marks points 0 (omega arith) i) }
