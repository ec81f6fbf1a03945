-- A byte taken: one law for each test that the code makes.
use mathlib.Core.Path.{◌≡◌, refl, ap, ◌∙◌}
use Prim.Native.Nat.{ℕ, zero, suc, ◌+◌, ◌-◌, ◌*◌, ◌≤◌, ◌<◌}
use native.Mathlib.Omega.{arith}
use native.Mathlib.Numerals.{add-one}
use mathlib.Core.Bool.{Bool, true, false}
use mathlib.Core.Option.{none, some}
use mathlib.Core.List.{List, ◌∷◌, ◌++◌, append_assoc}
use lib.Dec.{leb}
use lib.ListN.{length, take, drop, set, length-set}
use lib.Seq.{take-suc-set, length-take-le}
use borrow.Author.Tests.{lt-ltb, le-ltb, le-leb, lt-leb, leb-true, leb-false, ne_eqb}
use mir.Syntax.{w64}
use mir.Val.{Fits}
use Rattle.model.specs.Choice.{when◌then◌else◌, given}
use Rattle.model.specs.Reading.{got, byte, groups, num}
use Rattle.model.specs.Jobs.{Line}
use Rattle.numbers.specs.Limits.{most_image}
use Rattle.numbers.specs.Weights.{Weighed}
use Rattle.numbers.proofs.Reading.{image-is, weighed_first, weighed_more, fifth_product, fifth_sum, last_product, last_sum, more_product, more_sum, more-weight}
use Rattle.requests.specs.Report.{cut_off, single, answers_in}
use Rattle.requests.proofs.Report.{one_answer_at_a_time, single_too_long}
use Rattle.reports.specs.declared.division.Reading.{Reading}
use Rattle.reports.specs.declared.division.Reading.TheVariants.{Between, Length, Image, Passing, Cut}
use Rattle.reports.specs.Dividing.{answered, too_long_line, answers_from, Waits, Comes, FirstGroup, NextGroup, Divides}

-- ---- an image of a length that is known

long-answered : (n : ℕ) (rest : List ℕ) → most_image < n → answered single (cut_off (got n rest)) ≡ answered (λ image. too_long_line) (cut_off (got n rest))
unfolding cut_off
long-answered n rest h = by (leb n (length rest)) refl
  where
    by : (t : Bool) → leb n (length rest) ≡ t → answered single (when t then some (take n rest, drop n rest) else none)
        ≡ answered (λ image. too_long_line) (when t then some (take n rest, drop n rest) else none)
    by true e =
        let l = length-take-le n rest (leb-true n (length rest) e) in
        ap (λ (a : Line). given (answers_in (drop n rest)) (λ l. some (a ∷ l))) (single_too_long (take n rest) (rw (l, ← image-is) h))
    by false e = refl

module _ (n : ℕ) where
  pub image_passed : most_image < n → Comes (got n) (Passing n)
  unfolding answers_from
  image_passed h = record { reached = tt; is = λ room rest. long-answered n rest h }

  pub image-begun : n ≤ most_image → Comes (got n) (Image 0 n)
  unfolding answers_from
  image-begun h = record { reached = omega arith; is = λ room rest. refl }

-- ---- a length, group by group

module _ (b : ℕ) where
  pub first-last : {r : Reading} → b < 128 → Comes (got b) r → FirstGroup b r
  unfolding FirstGroup num byte
  first-last h c = rw (lt-ltb b 128 h) c

  pub first_more : 128 ≤ b → b < 256 → FirstGroup b (Length 3 128 (b - 128))
  unfolding FirstGroup num byte answers_from
  first_more h k = record { reached = weighed_first k; is = λ room rest. rw (le-ltb b 128 h) refl }

  module _ (left w n : ℕ) where
    pub group-zero : b ≡ 0 → NextGroup left w n b Cut
    unfolding NextGroup groups byte answers_from cut_off
    group-zero z = record { reached = tt; is = λ room rest. by room rest left }
      where
        by : (room rest : List ℕ) (k : ℕ) → answered single (cut_off (groups k w n (b ∷ rest))) ≡ answers_from Cut room rest
        by room rest zero = rw z
        by room rest (suc k) = rw z

    pub group-over : left ≡ 0 → 15 < b → NextGroup left w n b Cut
    unfolding NextGroup groups byte answers_from cut_off
    group-over e h = record { reached = tt; is = λ room rest. rw (e, lt-leb b 15 h) }

    pub group-fifth : left ≡ 0 → b ≤ 15 → (b ≡ 0 → ⊥) → {r : Reading} → Comes (got (n + b * w)) r → NextGroup left w n b r
    unfolding NextGroup groups byte
    group-fifth e h z c = rw (e, le-leb b 15 h, ne_eqb b 0 z) c

    module _ (e : left ≡ 0 → ⊥) where
      fewer : left ≡ suc (left - 1)
      fewer = omega arith

      pub group-last : b < 128 → (b ≡ 0 → ⊥) → {r : Reading} → Comes (got (n + b * w)) r → NextGroup left w n b r
      unfolding NextGroup groups byte
      group-last h z c = rw (fewer, lt-ltb b 128 h, ne_eqb b 0 z) c

      pub group-more : Weighed left w n → 128 ≤ b → b < 256 → NextGroup left w n b (Length (left - 1) (w * 128) (n + (b - 128) * w))
      unfolding NextGroup groups byte answers_from
      group-more i h k = record { reached = weighed_more i e k; is = λ room rest. ap (λ (l : ℕ). answered single (cut_off (groups l w n (b ∷ rest)))) fewer ∙ more rest }
        where
          more : (rest : List ℕ) → answered single (cut_off (groups (suc (left - 1)) w n (b ∷ rest))) ≡ answered single (cut_off (groups (left - 1) (w * 128) (n + (b - 128) * w) rest))
          more rest = rw (le-ltb b 128 h)

-- ---- a byte of the file

module _ {here : Reading} {b : ℕ} {room : List ℕ} {r : Reading} where
  pub between_taken : here ≡ Between → FirstGroup b r → Divides here b room r room
  unfolding FirstGroup answers_from
  between_taken e c = rw e (record { reached = c.reached; same = refl; is = λ rest. one_answer_at_a_time b rest ∙ c.is room rest })

  pub length_taken : {left w n : ℕ} → here ≡ Length left w n → NextGroup left w n b r → Divides here b room r room
  unfolding NextGroup answers_from
  length_taken e c = rw e (record { reached = c.reached; same = refl; is = λ rest. c.is room rest })

pub cut-taken : {here : Reading} {b : ℕ} {room : List ℕ} → here ≡ Cut → Divides here b room Cut room
unfolding answers_from
cut-taken e = rw e (record { reached = tt; same = refl; is = λ rest. refl })

-- a byte of an image that is stored, or passed over
cut-behind : (left b : ℕ) (rest : List ℕ) (answer : List ℕ → Line) → answered answer (cut_off (got (suc left) (b ∷ rest))) ≡ answered (λ image. answer (b ∷ image)) (cut_off (got left rest))
unfolding cut_off
cut-behind left b rest answer = by (leb left (length rest)) (leb (suc left) (suc (length rest))) (both left (length rest))
  where
    both : (m n : ℕ) → leb (suc m) (suc n) ≡ leb m n
    both m n = by_test (leb m n) refl
      where
        by_test : (t : Bool) → leb m n ≡ t → leb (suc m) (suc n) ≡ t
        by_test true e = let l = leb-true m n e in le-leb (suc m) (suc n) (omega arith)
        by_test false e = let l = leb-false m n e in lt-leb (suc m) (suc n) (omega arith)

    by : (t u : Bool) → u ≡ t → answered answer (when u then some (b ∷ take left rest, drop left rest) else none)
        ≡ answered (λ image. answer (b ∷ image)) (when t then some (take left rest, drop left rest) else none)
    by true u e = rw e
    by false u e = rw e

-- of any answer, since the single job's is a large term
stored-by : (answer : List ℕ → Line) (have left b : ℕ) (room rest : List ℕ) → have < length room
    → answered (λ image. answer (take have room ++ image)) (cut_off (got (suc left) (b ∷ rest))) ≡ answered (λ image. answer (take (have + 1) (set room have b) ++ image)) (cut_off (got left rest))
stored-by answer have left b room rest h =
    cut-behind left b rest (λ image. answer (take have room ++ image)) ∙ rw (add-one have, take-suc-set room have b h) (simp append_assoc)

stored_more : (have left b : ℕ) (room rest : List ℕ) → have < length room
    → answers_from (Image have (suc left)) room (b ∷ rest) ≡ answers_from (Image (have + 1) left) (set room have b) rest
unfolding answers_from
stored_more have left b room rest h = stored-by single have left b room rest h

module _ {here : Reading} (w : Waits here) {have left : ℕ} (e : here ≡ Image have left) where
  inside : (0 < left) × (have + left ≤ most_image)
  inside = rw e at w

  pub image-room : (room : List ℕ) → most_image ≤ length room → have < length room
  image-room room h = let i = inside in omega arith

  pub have_fits : Fits w64 (have + 1)
  have_fits = let i = inside in record { fits = omega arith }

  pub some_left : 1 ≤ left
  some_left = let i = inside in omega arith

  pub image-taken : {b : ℕ} {room : List ℕ} → most_image ≤ length room → Divides here b room (Image (have + 1) (left - 1)) (set room have b)
  image-taken {b} {room} h =
      let i = inside in
      let p : left ≡ suc (left - 1) = omega arith in
      record {
        reached = omega arith;
        same = length-set room have b;
        is = λ rest. ap (λ (r : Reading). answers_from r room (b ∷ rest)) (e ∙ ap (Image have) p) ∙ stored_more have (left - 1) b room rest (omega arith);
      }

module _ {here : Reading} (w : Waits here) {left : ℕ} (e : here ≡ Passing left) where
  pub some-passing : 1 ≤ left
  some-passing = let i : 0 < left = rw e at w in omega arith

  pub passing-taken : {b : ℕ} {room : List ℕ} → Divides here b room (Passing (left - 1)) room
  unfolding answers_from
  passing-taken {b} {room} =
      let i = some-passing in
      let p : left ≡ suc (left - 1) = omega arith in
      record {
        reached = tt;
        same = refl;
        is = λ rest. ap (λ (r : Reading). answers_from r room (b ∷ rest)) (e ∙ ap Passing p) ∙ cut-behind (left - 1) b rest (λ image. too_long_line);
      }

pub length-waits : {here : Reading} {left w n : ℕ} → Waits here → here ≡ Length left w n → Weighed left w n
length-waits h e = rw e at h

pub ruleset dividing_laws = (image_passed, image-begun, first-last, first_more, group-zero, group-over, group-fifth, group-last, group-more, weighed_more, fifth_product, fifth_sum, last_product, last_sum, more_product, more_sum, more-weight, length-waits, between_taken, length_taken, cut-taken, image-room, have_fits, some_left, image-taken, some-passing, passing-taken)
