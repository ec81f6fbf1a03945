-- Inputs that were read are within their buffers, and a job has those that it is said to have.
use Prim.Native.Nat.{ℕ, ◌+◌, ◌≤◌}
use mathlib.Core.Path.{◌≡◌, sym, ap}
use mathlib.Core.List.{List, ◌++◌}
use mathlib.Core.Bool.{Bool, true, false}
use native.Mathlib.Omega.{arith}
use lib.ListN.{length, take, drop, length-drop, length-append}
use lib.Seq.{length-take-le}
use Rattle.std.specs.Prelude.{Result, Ok}
use Rattle.replay.specs.Stream.{has_more, Both, Behind}
use Rattle.replay.specs.declared.stream.Input.{Input}
use Rattle.replay.specs.declared.stream.Cut.{Cut}

-- ---- one input behind the image

more_or_less : {A : Type 0} {b : Bool} → b ≡ true → b ≡ false → A
more_or_less p q = let z : ◌≡◌ {A = ℕ} 0 1 = cc in absurd (omega arith)

-- two answers that are the same give the same lengths
module _ {k n j m : ℕ} {past q : Input} (e : ◌≡◌ {A = Result (ℕ × ℕ × Input) Cut} (Ok (k, n, past)) (Ok (j, m, q))) where
  held : ◌≡◌ {A = ℕ × ℕ × Input} (k, n, past) (j, m, q)
  held = cc

  first_same : k ≡ j
  first_same = ap (λ (p : ℕ × ℕ × Input). p.0) held

  all_same : n ≡ m
  all_same = ap (λ (p : ℕ × ℕ × Input). p.1) held

pub behind-one : {job k : ℕ} {past : Input} → k ≤ 70000 → has_more job ≡ true → Behind job (Ok (k, k, past))
behind-one {k = k} h more =
    record {
      within = λ j n q e. (let y = first_same e in let z = all_same e in (omega arith, omega arith, omega arith));
      one = λ other j n q e. (let y = first_same e in let z = all_same e in omega arith);
      none = λ less j n q e. more_or_less more less;
    }

-- ---- two inputs behind the image

pub behind-both : {job k : ℕ} {r : Result (ℕ × ℕ × Input) Cut} → k ≤ 70000 → has_more job ≡ true → job ≡ 10 → Both k r → Behind job r
behind-both {k = k} l more h b =
    record {
      within = λ j n q e. (let y = b.first j n q e in let z = b.within j n q e in (omega arith, omega arith, omega arith));
      one = λ other j n q e. absurd (other h);
      none = λ less j n q e. more_or_less more less;
    }

-- ---- the first input is in the front half of the buffer, which stays as long as it is

pub first_few : {n : ℕ} (l : List ℕ) → length l ≡ 140000 → n ≤ length (take 70000 l) → n ≤ 70000
first_few l h i = let e = length-take-le 70000 l (omega (arith, h)) in omega arith

pub front_half : (l : List ℕ) → length l ≡ 140000 → 70000 ≡ length (take 70000 l)
front_half l h = sym (length-take-le 70000 l (omega (arith, h)))

pub same_room : (l into : List ℕ) → length l ≡ 140000 → length into ≡ length (take 70000 l) → length (into ++ drop 70000 l) ≡ 140000
same_room l into h i =
    let e = length-take-le 70000 l (omega (arith, h)) in
    let d = length-drop 70000 l in
    rw length-append (omega arith)

-- ---- what of the buffer behind the image is given

module _ {job k n : ℕ} {past : Input} {r : Result (ℕ × ℕ × Input) Cut} (b : Behind job r) (e : r ≡ Ok (k, n, past)) where
  pub split_few : k ≤ 70000
  split_few = (b.within k n past e).0

  pub split_part : k ≤ n
  split_part = (b.within k n past e).1

  pub given-few : (l l₀ : List ℕ) → length l₀ ≡ 140000 → length l ≡ length l₀ → n ≤ length l
  given-few l l₀ h i = let w = b.within k n past e in omega arith

pub ruleset given_laws = (split_few, split_part, given-few)
