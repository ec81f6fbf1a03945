-- Writing a number group by group.
use Prim.Native.Nat.{ℕ, zero, suc, ◌+◌, ◌*◌, ◌%◌, ◌/◌, ◌≤◌, ◌<◌}
use mathlib.Core.Path.{◌≡◌, refl, ap, ◌∙◌}
use mathlib.Core.List.{List, [], ◌∷◌, ◌++◌}
use mathlib.Core.Bool.{Bool, true, false}
use native.Mathlib.Omega.{arith}
use native.Mathlib.Numerals.{add-one}
use lib.ListN.{length, set, length-set}
use lib.Seq.{sets}
use lib.Dec.{ltb}
use borrow.Author.Tests.{lt-ltb, le-ltb}
use Rattle.model.specs.Choice.{when◌then◌else◌}
use Rattle.model.specs.Writing.{groups_of, num_bytes}

-- how large a number can be that takes at most `left` groups before the last, where the fifth group is at most 15
unfoldable pub cap : ℕ → ℕ
cap zero = 16
cap (suc left) = cap left * 128

one-group : (left v : ℕ) → v < 128 → groups_of left v ≡ v ∷ []
unfolding groups_of
one-group zero v h = refl
one-group (suc left) v h = simp (lt-ltb v 128 h)

record Step (left v : ℕ) : Type 0 where
  less : ℕ
  is : groups_of left v ≡ (v % 128 + 128) ∷ groups_of less (v / 128)
  small : v / 128 < cap less

step : (left v : ℕ) → 127 < v → v < cap left → Step left v
unfolding groups_of cap
step zero v h c = absurd (omega arith)
step (suc left) v h c = record { less = left; is = simp (le-ltb v 128 h); small = omega arith }

some-group : (left v : ℕ) → 1 ≤ length (groups_of left v)
unfolding groups_of
some-group zero v = omega arith
some-group (suc left) v = go (ltb v 128)
  where
    go : (t : Bool) → 1 ≤ length (when t then v ∷ [] else (v % 128 + 128) ∷ groups_of left (v / 128))
    go true = omega arith
    go false = omega arith

-- where the writing of n at `at` stands: writing v at i makes of out what is to be made of out₀
pub record Put (out₀ : List ℕ) (at n : ℕ) (out : List ℕ) (i v : ℕ) : Type 0 where
  pub left : ℕ
  pub small : v < cap left
  pub same : length out ≡ length out₀
  pub past : i + length (groups_of left v) ≡ at + length (num_bytes n)
  pub bytes : sets out i (groups_of left v) ≡ sets out₀ at (num_bytes n)

pub put_start : {out : List ℕ} {at n : ℕ} → n < 4294967296 → Put out at n out at n
unfolding cap num_bytes
put_start h = record { left = 4; small = h; same = refl; past = refl; bytes = refl }

module _ {out₀ : List ℕ} {at n : ℕ} {out : List ℕ} {i v : ℕ} (w : Put out₀ at n out i v) where
  pub put_room : at + length (num_bytes n) ≤ length out₀ → i < length out
  put_room h = let k = some-group w.left v in let e = w.same in let p = w.past in omega arith

  pub put_more : 127 < v → Put out₀ at n (set out i (v % 128 + 128)) (i + 1) (v / 128)
  put_more h =
      let t = step w.left v h w.small in
      let p = simp t.is at w.past in
      record {
        left = t.less;
        small = t.small;
        same = length-set out i (v % 128 + 128) ∙ w.same;
        past = omega arith;
        bytes = rw add-one (simp t.is at w.bytes);
      }

  pub put_past : v ≤ 127 → i + 1 ≡ at + length (num_bytes n)
  put_past h = let p = simp (one-group w.left v (omega arith)) at w.past in omega arith

  pub put_bytes : v ≤ 127 → set out i v ≡ sets out₀ at (num_bytes n)
  put_bytes h = simp (one-group w.left v (omega arith)) at w.bytes

-- how many groups
groups-one : (left v : ℕ) → v < 128 → 1 ≡ length (groups_of left v)
groups-one left v h = rw (one-group left v h)

groups-more : (left v k : ℕ) → 128 ≤ v → k ≡ length (groups_of left (v / 128)) → suc k ≡ length (groups_of (suc left) v)
unfolding groups_of
groups-more left v k h e = simp (le-ltb v 128 h) (ap suc e)

groups-last : (v : ℕ) → 1 ≡ length (groups_of 0 v)
unfolding groups_of
groups-last v = refl

module _ (n : ℕ) where
  pub len-one : n < 128 → 1 ≡ length (num_bytes n)
  unfolding num_bytes
  len-one h = groups-one 4 n h

  pub len-two : 128 ≤ n → n < 16384 → 2 ≡ length (num_bytes n)
  unfolding num_bytes
  len-two l h = groups-more 3 n 1 l (groups-one 3 (n / 128) (omega arith))

  pub len_three : 16384 ≤ n → n < 2097152 → 3 ≡ length (num_bytes n)
  unfolding num_bytes
  len_three l h = groups-more 3 n 2 (omega arith) (groups-more 2 (n / 128) 1 (omega arith) (groups-one 2 (n / 128 / 128) (omega arith)))

  pub len_four : 2097152 ≤ n → n < 268435456 → 4 ≡ length (num_bytes n)
  unfolding num_bytes
  len_four l h =
      groups-more 3 n 3 (omega arith) (groups-more 2 (n / 128) 2 (omega arith) (groups-more 1 (n / 128 / 128) 1 (omega arith)
      (groups-one 1 (n / 128 / 128 / 128) (omega arith))))

  pub len_five : 268435456 ≤ n → 5 ≡ length (num_bytes n)
  unfolding num_bytes
  len_five l =
      groups-more 3 n 4 (omega arith) (groups-more 2 (n / 128) 3 (omega arith) (groups-more 1 (n / 128 / 128) 2 (omega arith)
      (groups-more 0 (n / 128 / 128 / 128) 1 (omega arith) (groups-last (n / 128 / 128 / 128 / 128)))))

-- at most five groups
groups-few : (left v : ℕ) → length (groups_of left v) ≤ suc left
unfolding groups_of
groups-few zero v = omega arith
groups-few (suc left) v = go (ltb v 128) (groups-few left (v / 128))
  where
    go : (t : Bool) → length (groups_of left (v / 128)) ≤ suc left → length (when t then v ∷ [] else (v % 128 + 128) ∷ groups_of left (v / 128)) ≤ suc (suc left)
    go true h = omega arith
    go false h = omega arith

pub num-short : (n : ℕ) → length (num_bytes n) ≤ 5
unfolding num_bytes
num-short n = groups-few 4 n

-- one run of stores behind another is one run
pub sets_append : (xs ys l : List ℕ) (i : ℕ) → sets (sets l i xs) (i + length xs) ys ≡ sets l i (xs ++ ys)
sets_append [] ys l i = let e : i + 0 ≡ i = omega arith in rw e
sets_append (x ∷ xs) ys l i = let e : i + suc (length xs) ≡ suc i + length xs = omega arith in rw e (sets_append xs ys (set l i x) (suc i))

pub ruleset writing_laws = (put_start, put_room, put_more, put_past, put_bytes, len-one, len-two, len_three, len_four, len_five)
