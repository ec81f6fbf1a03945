-- Bytes in hexadecimal, placed one after another.
use Prim.Native.Nat.{ℕ, ◌+◌, ◌*◌, ◌/◌, ◌%◌, ◌≤◌, ◌<◌}
use mathlib.Core.Path.{◌≡◌, refl, sym}
use mathlib.Core.List.{List, [], ◌∷◌}
use native.Mathlib.Omega.{arith}
use native.Mathlib.Numerals.{add-one}
use mir.Syntax.{w64}
use mir.Val.{Fits}
use lib.ListN.{length, drop, get_or, set, length-set, length-drop, drop_of_length-le}
use lib.Seq.{drop-cons}
use borrow.Author.Tests.{lt-ltb, le-ltb}
use Rattle.text.specs.Placing.{Placed}
use Rattle.text.specs.Hexadecimal.{hex_digit, hex_of}
use Rattle.text.proofs.Placing.{Placing, begun, one_more, ended, placed-length}

pub decimal_digit : {d : ℕ} → d < 10 → 48 + d ≡ hex_digit d
unfolding hex_digit
decimal_digit {d} h = simp (lt-ltb d 10 h)

pub letter_digit : {d : ℕ} → 10 ≤ d → 87 + d ≡ hex_digit d
unfolding hex_digit
letter_digit {d} h = simp (le-ltb d 10 h)

pub hex_length : (l : List ℕ) → length (hex_of l) ≡ length l * 2
unfolding hex_of
hex_length [] = refl
hex_length (b ∷ l) = let e = hex_length l in omega arith

-- where the first i of the bytes are placed
pub record Spelling (out₀ : List ℕ) (at : ℕ) (bytes out : List ℕ) (to i : ℕ) : Type 0 where
  pub within : i ≤ length bytes
  pub placing : Placing out₀ at (hex_of bytes) out to (hex_of (drop i bytes))

pub spelling-begun : {out bytes : List ℕ} {at : ℕ} → Spelling out at bytes out at 0
spelling-begun = record { within = omega arith; placing = begun }

module _ {out₀ : List ℕ} {at : ℕ} {bytes out : List ℕ} {to i : ℕ} (w : Spelling out₀ at bytes out to i) where
  both : at + length bytes * 2 ≤ length out₀ → i < length bytes → to + 1 < length out
  both h l =
      let s = w.placing.same in let e = w.placing.ends in
      let a = hex_length bytes in let b = hex_length (drop i bytes) in let c = length-drop i bytes in
      omega arith

  pub high-room : at + length bytes * 2 ≤ length out₀ → i < length bytes → to < length out
  high-room h l = let b = both h l in omega arith

  pub low-room : (x : ℕ) → at + length bytes * 2 ≤ length out₀ → i < length bytes → to + 1 < length (set out to x)
  low-room x h l = let b = both h l in rw (length-set out to x) b

  pub low_fits : at + length bytes * 2 ≤ length out₀ → i < length bytes → Fits w64 (length out₀) → Fits w64 (to + 1)
  low_fits h l f = let b = both h l in let s = w.placing.same in omega arith

  pub past_fits : at + length bytes * 2 ≤ length out₀ → i < length bytes → Fits w64 (length out₀) → Fits w64 (to + 2)
  past_fits h l f = let b = both h l in let s = w.placing.same in omega arith

  pub spelling-more : {x y : ℕ} → i < length bytes → x ≡ hex_digit (get_or bytes i 0 / 16) → y ≡ hex_digit (get_or bytes i 0 % 16)
      → Spelling out₀ at bytes (set (set out to x) (to + 1) y) (to + 2) (i + 1)
  unfolding hex_of
  spelling-more {x} {y} l p q =
      let two : to + 1 + 1 ≡ to + 2 = omega arith in
      let front = rw (drop-cons bytes i 0 l) at w.placing in
      record {
        within = omega arith;
        placing = rw (add-one i) (rw p (rw q (rw (sym two) (one_more (one_more front)))));
      }

  pub spelling-ended : length bytes ≤ i → Placed out₀ at (hex_of bytes) out to
  unfolding hex_of
  spelling-ended l = ended (rw (drop_of_length-le bytes l) at w.placing)

pub ruleset hex_laws = (decimal_digit, letter_digit, spelling-begun, high-room, low-room, low_fits, past_fits, spelling-more, spelling-ended, placed-length)
