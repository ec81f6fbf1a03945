-- One word done to the number in which values stand is its instruction's step on these values.
use Prim.Native.Nat.{ℕ, zero, suc, ◌+◌, ◌-◌, ◌*◌, ◌/◌, ◌%◌, ◌≤◌, ◌<◌}
use mathlib.Core.Path.{◌≡◌, refl, ap}
use mathlib.Core.List.{List, [], ◌∷◌}
use native.Mathlib.Omega.{arith}
use lib.Dec.{eqb}
use lib.ListN.{length, get_or, set}
use borrow.Author.Tests.{ne_eqb}
use Rattle.model.specs.Choice.{when◌then◌else◌}
use Rattle.requests.specs.Scanning.{both, either, opposite, write_point, write_bit}
use Rattle.requests.specs.Binary.{Binary}
use Rattle.requests.proofs.Binary.{binary-at, binary-set, both-binary, either-binary, opposite-binary}
use Rattle.ladder.specs.Code.{Join, load, series, parallel, Instruction, contact, bit_contact, join, inverse, coil, bit_coil, join_number}
use Rattle.ladder.specs.Running.{Running, top_of, rest_of, taken, step, instruction_by, most_values, height_after_join, height_after, TakesJoin, Takes}
use Rattle.ladder.specs.Places.{number_of, series_in, parallel_in, taken_in, inverse_in, operated_in, values_after, points_after, bits_after, most_number}

pub record Standing (l : List ℕ) (values : ℕ) : Type 0 where
  pub is : values ≡ number_of l
  pub binary : Binary l
  pub few : length l ≤ most_values

-- ---- 63 places are enough

numbers : ℕ → ℕ
numbers zero = 1
numbers (suc n) = numbers n * 2

number_less : (l : List ℕ) (n : ℕ) → Binary l → length l ≤ n → number_of l < numbers n
unfolding number_of numbers
number_less [] zero b h = omega arith
number_less [] (suc n) b h = omega (arith, number_less [] n tt (omega arith))
number_less (v ∷ l) zero b h = absurd (omega arith)
number_less (v ∷ l) (suc n) b h = omega (arith, b.0, number_less l n b.1 (omega arith))

pub standing_small : {l : List ℕ} {values : ℕ} → Standing l values → values < most_number
unfolding numbers
standing_small {l} s = omega (arith, s.is, number_less l 63 s.binary s.few)

-- ---- the last value, and the others

module _ {l : List ℕ} {values : ℕ} (s : Standing l values) (some : 0 < length l) where
  last-is : values % 2 ≡ top_of l
  unfolding top_of number_of
  last-is = go l s.is s.binary some
    where
      go : (l : List ℕ) → values ≡ number_of l → Binary l → 0 < length l → values % 2 ≡ top_of l
      go [] e b h = absurd (omega arith)
      go (v ∷ l) e b h = omega (arith, b.0)

  rest-stands : Standing (rest_of l) (values / 2)
  unfolding rest_of number_of
  rest-stands = go l s.is s.binary s.few some
    where
      go : (l : List ℕ) → values ≡ number_of l → Binary l → length l ≤ most_values → 0 < length l → Standing (rest_of l) (values / 2)
      go [] e b f h = absurd (omega arith)
      go (v ∷ l) e b f h = record { is = omega (arith, b.0); binary = b.1; few = omega arith }

  rest_height : length (rest_of l) ≡ length l - 1
  unfolding rest_of
  rest_height = go l some
    where
      go : (l : List ℕ) → 0 < length l → length (rest_of l) ≡ length l - 1
      go [] h = absurd (omega arith)
      go (v ∷ l) h = omega arith

  last-small : values % 2 ≤ 1
  last-small = omega arith

-- ---- a value taken

record Stands (l : List ℕ) (values height : ℕ) : Type 0 where
  stands : Standing l values
  high : length l ≡ height

series-stands : (l : List ℕ) (values v : ℕ) → Standing l values → v ≤ 1 → 0 < length l → Stands (taken series v l) (series_in values v) (length l)
unfolding taken top_of rest_of number_of series_in both
series-stands [] values v s h k = absurd (omega arith)
series-stands (a ∷ l) values v s h k =
    record { stands = record { is = go a v s.is s.binary.0 h; binary = (both-binary a v h, s.binary.1); few = s.few }; high = refl }
  where
    go : (a v : ℕ) → values ≡ number_of l * 2 + a → a ≤ 1 → v ≤ 1 → (when eqb v 0 then values - values % 2 else values) ≡ number_of l * 2 + both a v
    go zero zero e b h = omega arith
    go zero (suc v) e b h = rw (ne_eqb (suc v) 0 (λ q. omega arith)) (omega arith)
    go (suc a) zero e b h = omega arith
    go (suc a) (suc v) e b h = rw (ne_eqb (suc v) 0 (λ q. omega arith)) (omega arith)

parallel-stands : (l : List ℕ) (values v : ℕ) → Standing l values → v ≤ 1 → 0 < length l → Stands (taken parallel v l) (parallel_in values v) (length l)
unfolding taken top_of rest_of number_of parallel_in either
parallel-stands [] values v s h k = absurd (omega arith)
parallel-stands (a ∷ l) values v s h k =
    record { stands = record { is = go a v s.is s.binary.0 h; binary = (either-binary a v h, s.binary.1); few = s.few }; high = refl }
  where
    go : (a v : ℕ) → values ≡ number_of l * 2 + a → a ≤ 1 → v ≤ 1 → (when eqb v 0 then values else values - values % 2 + 1) ≡ number_of l * 2 + either a v
    go zero zero e b h = e
    go zero (suc v) e b h = rw (ne_eqb (suc v) 0 (λ q. omega arith)) (omega arith)
    go (suc a) zero e b h = omega arith
    go (suc a) (suc v) e b h = rw (ne_eqb (suc v) 0 (λ q. omega arith)) (omega arith)

inverse-stands : (l : List ℕ) (values : ℕ) → Standing l values → 0 < length l → Stands (opposite (top_of l) ∷ rest_of l) (inverse_in values) (length l)
unfolding top_of rest_of number_of inverse_in opposite
inverse-stands [] values s k = absurd (omega arith)
inverse-stands (a ∷ l) values s k =
    record { stands = record { is = go a s.is s.binary.0; binary = (opposite-binary a, s.binary.1); few = s.few }; high = refl }
  where
    go : (a : ℕ) → values ≡ number_of l * 2 + a → a ≤ 1 → (when eqb (values % 2) 0 then values + 1 else values - 1) ≡ number_of l * 2 + opposite a
    go zero e b = let z : values % 2 ≡ 0 = omega arith in rw z (omega arith)
    go (suc a) e b = let z : values % 2 ≡ 1 = omega arith in rw z (omega arith)

taken-stands : (j : Join) (l : List ℕ) (values v : ℕ) → Standing l values → v ≤ 1 → TakesJoin j (length l) → Stands (taken j v l) (taken_in (join_number j) values v) (height_after_join j (length l))
unfolding taken_in join_number height_after_join taken number_of
taken-stands load l values v s h k = record { stands = record { is = omega (arith, s.is); binary = (h, s.binary); few = omega arith }; high = refl }
taken-stands series l values v s h k = series-stands l values v s h k
taken-stands parallel l values v s h k = parallel-stands l values v s h k

-- ---- a step

pub record Moved (i : Instruction) (r : Running) (points bits : List ℕ) (values : ℕ) : Type 0 where
  pub stands : Standing (step i r).values values
  pub high : length (step i r).values ≡ height_after i (length r.values)
  pub points-are : points ≡ (step i r).state.points
  pub bits_are : bits ≡ (step i r).state.bits
  pub points-binary : Binary points
  pub bits-binary : Binary bits

module _ (x : ℕ) (points bits : List ℕ) (p : Binary points) (b : Binary bits) {l : List ℕ} {values : ℕ} (s : Standing l values) where
  abbrev now : Running
  now = record { values = l; state = record { points = points; bits = bits } }

  contact_moves : (j : Join) → TakesJoin j (length l) → Moved (contact j x) now points bits (taken_in (join_number j) values (get_or points x 0))
  unfolding step height_after
  contact_moves j k =
      let m = taken-stands j l values (get_or points x 0) s (binary-at points p x) k in
      record { stands = m.stands; high = m.high; points-are = refl; bits_are = refl; points-binary = p; bits-binary = b }

  bit_contact_moves : (j : Join) → TakesJoin j (length l) → Moved (bit_contact j x) now points bits (taken_in (join_number j) values (get_or bits x 0))
  unfolding step height_after
  bit_contact_moves j k =
      let m = taken-stands j l values (get_or bits x 0) s (binary-at bits b x) k in
      record { stands = m.stands; high = m.high; points-are = refl; bits_are = refl; points-binary = p; bits-binary = b }

  join_moves : (j : Join) → TakesJoin j (length l - 1) → 1 < length l → height_after_join j (length l - 1) ≡ length l - 1 → Moved (join j) now points bits (taken_in (join_number j) (values / 2) (values % 2))
  unfolding step height_after
  join_moves j k n e =
      let some : 0 < length l = omega arith in
      let h = rest_height s some in
      let q : Stands (taken j (values % 2) (rest_of l)) (taken_in (join_number j) (values / 2) (values % 2)) (height_after_join j (length (rest_of l))) =
      taken-stands j (rest_of l) (values / 2) (values % 2) (rest-stands s some) (last-small s some) (rw h k) in
      let m : Stands (taken j (top_of l) (rest_of l)) (taken_in (join_number j) (values / 2) (values % 2)) (length l - 1) = rw (← last-is s some, ← e, ← h) q in
      record { stands = m.stands; high = m.high; points-are = refl; bits_are = refl; points-binary = p; bits-binary = b }

  inverse_moves : 0 < length l → Moved inverse now points bits (inverse_in values)
  unfolding step height_after
  inverse_moves k =
      let m = inverse-stands l values s k in
      record { stands = m.stands; high = m.high; points-are = refl; bits_are = refl; points-binary = p; bits-binary = b }

  coil_moves : 0 < length l → Moved (coil x) now (set points x (values % 2)) bits (values / 2)
  unfolding step height_after write_point
  coil_moves k =
      record {
        stands = rest-stands s k;
        high = rest_height s k;
        points-are = ap (set points x) (last-is s k);
        bits_are = refl;
        points-binary = binary-set points p x (values % 2) (last-small s k);
        bits-binary = b;
      }

  bit_coil_moves : 0 < length l → Moved (bit_coil x) now points (set bits x (values % 2)) (values / 2)
  unfolding step height_after write_bit
  bit_coil_moves k =
      record {
        stands = rest-stands s k;
        high = rest_height s k;
        points-are = refl;
        bits_are = ap (set bits x) (last-is s k);
        points-binary = p;
        bits-binary = binary-set bits b x (values % 2) (last-small s k);
      }

  pub moves : (what : ℕ) → Takes (instruction_by what x) (length l)
      → Moved (instruction_by what x) now (points_after what x points values) (bits_after what x bits values) (values_after what x points bits values)
  unfolding instruction_by points_after bits_after values_after operated_in join_number height_after_join
  moves zero k = contact_moves load k
  moves (suc zero) k = contact_moves series k
  moves (suc (suc zero)) k = contact_moves parallel k
  moves (suc (suc (suc zero))) k = bit_contact_moves load k
  moves (suc (suc (suc (suc zero)))) k = bit_contact_moves series k
  moves (suc (suc (suc (suc (suc zero))))) k = bit_contact_moves parallel k
  moves (suc (suc (suc (suc (suc (suc zero)))))) k = join_moves series (omega arith) k refl
  moves (suc (suc (suc (suc (suc (suc (suc zero))))))) k = join_moves parallel (omega arith) k refl
  moves (suc (suc (suc (suc (suc (suc (suc (suc zero)))))))) k = inverse_moves k
  moves (suc (suc (suc (suc (suc (suc (suc (suc (suc zero))))))))) k = coil_moves k
  moves (suc (suc (suc (suc (suc (suc (suc (suc (suc (suc zero)))))))))) k = bit_coil_moves k
  moves (suc (suc (suc (suc (suc (suc (suc (suc (suc (suc (suc what))))))))))) k = absurd k
