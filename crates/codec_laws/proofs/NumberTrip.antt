-- Numbers: what is written is read back, and what is read is written again the same.
use mathlib.Core.Path.{◌≡◌, refl, sym, ap, ap₂, ◌∙◌, subst}
use mathlib.Core.Logic.{◌≢◌}
use Prim.Native.Nat.{ℕ, zero, suc, ◌+◌, ◌-◌, ◌*◌, ◌/◌, ◌%◌, ◌^◌, ◌≤◌, ◌<◌}
use native.Mathlib.Nat.{zero-lt-suc, div-add-mod', one-le-pow}
use native.Mathlib.Omega.{arith}
use mathlib.Core.Bool.{Bool, true, false}
use mathlib.Core.List.{List, [], ◌∷◌, ◌++◌}
use lib.Dec.{eqb, ltb, leb}
use Rattle.model.specs.Choice.{when◌then◌else◌}
use Rattle.model.specs.Refusals.{Refusal, layout, over_limit}
use Rattle.model.specs.Reading.{Read, got, fault, byte, groups, num}
use Rattle.model.specs.Writing.{groups_of, num_bytes}
use Rattle.codec_laws.specs.WellFormed.{Bytes}
use borrow.Author.Tests.{le-leb, lt-ltb, le-ltb, ne_eqb, leb-true, ltb-true, ltb-false, eqb-false}

read_small : (k w n m : ℕ) (rest : List ℕ) → ltb m 128 ≡ true → eqb m 0 ≡ false
    → groups (suc k) w n (m ∷ rest) ≡ got (n + m * w) rest
unfolding groups byte
read_small k w n m rest e z = rw (e, z)

read_more : (k w n b : ℕ) (rest : List ℕ) → ltb b 128 ≡ false
    → groups (suc k) w n (b ∷ rest) ≡ groups k (w * 128) (n + (b - 128) * w) rest
unfolding groups byte
read_more k w n b rest e = rw e

read-last : (w n m : ℕ) (rest : List ℕ) → leb m 15 ≡ true → eqb m 0 ≡ false
    → groups zero w n (m ∷ rest) ≡ got (n + m * w) rest
unfolding groups byte
read-last w n m rest e z = rw (e, z)

-- ---- what is written is read back

-- the number that k groups and a last one can carry
abbrev room : ℕ → ℕ
room k = 16 * 128 ^ k

regroup : (n w m : ℕ) → n + (m % 128 + 128 - 128) * w + m / 128 * (w * 128) ≡ n + m * w
regroup n w m =
    ap (λ (x : ℕ). n + x * w + m / 128 * (w * 128)) (cut m) ∙ omega (arith, ap (λ (x : ℕ). x * w) (div-add-mod' m 128))
  where
    cut : (a : ℕ) → a % 128 + 128 - 128 ≡ a % 128
    cut a = omega arith

pos_ne : (m : ℕ) → 0 < m → m ≢ 0
pos_ne m h e = omega arith

groups_back : (k w n m : ℕ) (rest : List ℕ) → 0 < m → m < room k → groups k w n (groups_of k m ++ rest) ≡ got (n + m * w) rest
unfolding groups_of
groups_back zero w n m rest p h = read-last w n m rest (le-leb m 15 (omega arith)) (ne_eqb m 0 (pos_ne m p))
groups_back (suc k) w n m rest p h = go (ltb m 128) refl (groups_back k (w * 128) (n + (m % 128 + 128 - 128) * w) (m / 128) rest)
  where
    go : (t : Bool) → ltb m 128 ≡ t
        → (0 < m / 128 → m / 128 < room k → groups k (w * 128) (n + (m % 128 + 128 - 128) * w) (groups_of k (m / 128) ++ rest) ≡ got (n + (m % 128 + 128 - 128) * w + m / 128 * (w * 128)) rest)
        → groups (suc k) w n ((when t then m ∷ [] else (m % 128 + 128) ∷ groups_of k (m / 128)) ++ rest) ≡ got (n + m * w) rest
    go true e below = read_small k w n m rest e (ne_eqb m 0 (pos_ne m p))
    go false e below =
        read_more k w n (m % 128 + 128) (groups_of k (m / 128) ++ rest) (le-ltb (m % 128 + 128) 128 (omega arith))
        ∙ below (omega (arith, ltb-false m 128 e)) (omega arith)
        ∙ ap (λ (x : ℕ). got x rest) (regroup n w m)

-- a number of an image, written and read
pub num_back : (n : ℕ) (rest : List ℕ) → n < 4294967296 → num (num_bytes n ++ rest) ≡ got n rest
unfolding num byte num_bytes groups_of
num_back n rest h = go (ltb n 128) refl
  where
    go : (t : Bool) → ltb n 128 ≡ t → num ((when t then n ∷ [] else (n % 128 + 128) ∷ groups_of 3 (n / 128)) ++ rest) ≡ got n rest
    go true e = rw e
    go false e = rw (le-ltb (n % 128 + 128) 128 (omega arith))
        (groups_back 3 128 (n % 128 + 128 - 128) (n / 128) rest (omega (arith, ltb-false n 128 e)) (omega arith)
        ∙ ap (λ (x : ℕ). got x rest) (omega (arith, div-add-mod' n 128)))

-- ---- what is read is written back the same

pub fault≢got : {A : Type 0} (c : Refusal) (a : A) (s : List ℕ) → fault c ≡ got a s → ⊥
fault≢got c a s e = subst code e tt
  where
    code : {A : Type 0} → Read A → Type 0
    code (fault d) = Unit {0}
    code (got b t) = ⊥

pub got-value : {A : Type 0} (a b : A) (s t : List ℕ) → got a s ≡ got b t → a ≡ b
got-value a b s t e = cc

pub got-rest : {A : Type 0} (a b : A) (s t : List ℕ) → got a s ≡ got b t → s ≡ t
got-rest a b s t e = cc

read_last_over : (w n m : ℕ) (rest : List ℕ) → leb m 15 ≡ false → groups zero w n (m ∷ rest) ≡ fault over_limit
unfolding groups byte
read_last_over w n m rest e = rw e

read_last_zero : (w n m : ℕ) (rest : List ℕ) → leb m 15 ≡ true → eqb m 0 ≡ true → groups zero w n (m ∷ rest) ≡ fault layout
unfolding groups byte
read_last_zero w n m rest e z = rw (e, z)

read_small_zero : (k w n m : ℕ) (rest : List ℕ) → ltb m 128 ≡ true → eqb m 0 ≡ true → groups (suc k) w n (m ∷ rest) ≡ fault layout
unfolding groups byte
read_small_zero k w n m rest e z = rw (e, z)

read_none : (k w n : ℕ) → groups k w n [] ≡ fault layout
unfolding groups byte
read_none zero w n = refl
read_none (suc k) w n = refl

-- what reading the groups of s to v with `rest` left says of s
record Groups (k w n v : ℕ) (s rest : List ℕ) : Type 0 where
  m : ℕ
  pos : 0 < m
  fits : m < room k
  sum : v ≡ n + m * w
  same : s ≡ groups_of k m ++ rest

ne_pos : (m : ℕ) → m ≢ 0 → 0 < m
ne_pos m h = omega arith

digit_back : (b : ℕ) → b < 256 → 128 ≤ b → (m : ℕ) → (m * 128 + (b - 128)) % 128 + 128 ≡ b
digit_back b h l m = omega arith

groups-same : (k w n v : ℕ) (s rest : List ℕ) → Bytes s → groups k w n s ≡ got v rest → Groups k w n v s rest
unfolding groups_of
groups-same zero w n v [] rest bs e = absurd (fault≢got layout v rest (sym (read_none zero w n) ∙ e))
groups-same (suc k) w n v [] rest bs e = absurd (fault≢got layout v rest (sym (read_none (suc k) w n) ∙ e))
groups-same zero w n v (b ∷ s) rest bs e = go (leb b 15) refl (eqb b 0) refl
  where
    go : (t : Bool) → leb b 15 ≡ t → (z : Bool) → eqb b 0 ≡ z → Groups zero w n v (b ∷ s) rest
    go false p z q = absurd (fault≢got over_limit v rest (sym (read_last_over w n b s p) ∙ e))
    go true p true q = absurd (fault≢got layout v rest (sym (read_last_zero w n b s p q) ∙ e))
    go true p false q =
        let f = sym (read-last w n b s p q) ∙ e in
        record {
          m = b;
          pos = ne_pos b (eqb-false b 0 q);
          fits = omega (arith, leb-true b 15 p);
          sum = sym (got-value (n + b * w) v s rest f);
          same = ap (λ (r : List ℕ). b ∷ r) (got-rest (n + b * w) v s rest f);
        }
groups-same (suc k) w n v (b ∷ s) rest bs e =
    go (ltb b 128) refl (eqb b 0) refl (λ f. groups-same k (w * 128) (n + (b - 128) * w) v s rest bs.1 f)
  where
    high : (a : ℕ) → (a * 128 + (b - 128)) / 128 ≡ a
    high a = omega (arith, bs.0)

    more : (p : ltb b 128 ≡ false) → Groups k (w * 128) (n + (b - 128) * w) v s rest → Groups (suc k) w n v (b ∷ s) rest
    more p g =
        let q = g.m * 128 + (b - 128) in
        record {
          m = q;
          pos = omega (arith, g.pos);
          fits = omega (arith, g.fits, bs.0, ltb-false b 128 p);
          sum = g.sum ∙ omega arith;
          same = rw (le-ltb q 128 (omega (arith, g.pos)), high g.m, digit_back b bs.0 (ltb-false b 128 p) g.m)
              (ap (λ (r : List ℕ). b ∷ r) g.same);
        }

    go : (t : Bool) → ltb b 128 ≡ t → (z : Bool) → eqb b 0 ≡ z
        → (groups k (w * 128) (n + (b - 128) * w) s ≡ got v rest → Groups k (w * 128) (n + (b - 128) * w) v s rest)
        → Groups (suc k) w n v (b ∷ s) rest
    go true p true q below = absurd (fault≢got layout v rest (sym (read_small_zero k w n b s p q) ∙ e))
    go true p false q below =
        let f = sym (read_small k w n b s p q) ∙ e in
        record {
          m = b;
          pos = ne_pos b (eqb-false b 0 q);
          fits = omega (arith, ltb-true b 128 p, one-le-pow k 128 (zero-lt-suc 127));
          sum = sym (got-value (n + b * w) v s rest f);
          same = rw p (ap (λ (r : List ℕ). b ∷ r) (got-rest (n + b * w) v s rest f));
        }
    go false p z q below = more p (below (sym (read_more k w n b s p) ∙ e))

byte-none : num [] ≡ fault layout
unfolding num byte
byte-none = refl

num-small : (b : ℕ) (s : List ℕ) → ltb b 128 ≡ true → num (b ∷ s) ≡ got b s
unfolding num byte
num-small b s e = rw e

num-more : (b : ℕ) (s : List ℕ) → ltb b 128 ≡ false → num (b ∷ s) ≡ groups 3 128 (b - 128) s
unfolding num byte
num-more b s e = rw e

-- a number of an image, read and written
pub num-same : (s rest : List ℕ) (v : ℕ) → Bytes s → num s ≡ got v rest → (v < 4294967296) × (s ≡ num_bytes v ++ rest)
unfolding num_bytes groups_of
num-same [] rest v bs e = absurd (fault≢got layout v rest (sym byte-none ∙ e))
num-same (b ∷ s) rest v bs e = go (ltb b 128) refl
  where
    value-high : (m : ℕ) → 128 ≤ b → v ≡ b - 128 + m * 128 → v / 128 ≡ m
    value-high m l q = omega (arith, bs.0)

    value_low : (m : ℕ) → 128 ≤ b → v ≡ b - 128 + m * 128 → v % 128 + 128 ≡ b
    value_low m l q = omega (arith, bs.0)

    many : ltb b 128 ≡ false → Groups 3 128 (b - 128) v s rest → (v < 4294967296) × (b ∷ s ≡ groups_of 4 v ++ rest)
    many p g =
        let big = ltb-false b 128 p in (
          omega (arith, g.fits, g.sum, bs.0),
          rw (le-ltb v 128 (omega (arith, g.pos, g.sum)), value-high g.m big g.sum, value_low g.m big g.sum)
              (ap (λ (r : List ℕ). b ∷ r) g.same),
        )

    go : (t : Bool) → ltb b 128 ≡ t → (v < 4294967296) × (b ∷ s ≡ num_bytes v ++ rest)
    go true p =
        let f = sym (num-small b s p) ∙ e in
        let q = got-value b v s rest f in (
          omega (arith, ltb-true b 128 p, q),
          rw (lt-ltb v 128 (omega (arith, ltb-true b 128 p, q))) (ap₂ (λ (x : ℕ) (r : List ℕ). x ∷ r) q (got-rest b v s rest f)),
        )
    go false p = many p (groups-same 3 128 (b - 128) v s rest bs.1 (sym (num-more b s p) ∙ e))
