-- The loop along the code: one law for each way on and out.
use Prim.Native.Nat.{ℕ, suc, ◌+◌, ◌/◌, ◌%◌, ◌≤◌, ◌<◌}
use mathlib.Core.Path.{◌≡◌, refl, ap, ◌∙◌}
use mathlib.Core.List.{List, [], ◌∷◌}
use native.Mathlib.Omega.{arith}
use native.Mathlib.Numerals.{add-one}
use lib.ListN.{length, get_or, drop, drop_of_length-le}
use lib.Seq.{drop-cons}
use Rattle.requests.specs.Scanning.{State}
use Rattle.requests.specs.Binary.{Binary}
use Rattle.ladder.specs.Code.{operands}
use Rattle.ladder.specs.Running.{step, run, instruction_of, instructions_of, Fits}
use Rattle.ladder.specs.Places.{number_of, Steady, Stepped, Ready, after_code}
use Rattle.ladder.proofs.Standing.{Standing, standing_small, Moved, moves}

-- what is left of the code, run from here, comes to all of it
pub record Midway (code points₀ bits₀ : List ℕ) (at : ℕ) (points bits : List ℕ) (values : ℕ) : Type 0 where
  pub within : at ≤ length code
  pub points-long : length points ≡ length points₀
  pub bits-long : length bits ≡ length bits₀
  pub points-room : operands ≤ length points
  pub points-binary : Binary points
  pub bits-binary : Binary bits
  pub under_way : List ℕ
  pub stands : Standing under_way values
  pub fits : Fits (length bits) (length under_way) (instructions_of (drop at code))
  pub comes : (run (instructions_of (drop at code)) (record { values = under_way; state = record { points = points; bits = bits } })).state ≡ after_code code points₀ bits₀

pub midway_start : {code points bits : List ℕ} → Ready code points bits → Midway code points bits 0 points bits 0
unfolding number_of
midway_start r =
    record {
      within = omega arith;
      points-long = refl;
      bits-long = refl;
      points-room = r.points-room;
      points-binary = r.points-binary;
      bits-binary = r.bits-binary;
      under_way = [];
      stands = record { is = refl; binary = tt; few = omega arith };
      fits = r.fits;
      comes = refl;
    }

module _ {code points₀ bits₀ : List ℕ} {at : ℕ} {points bits : List ℕ} {values : ℕ} (w : Midway code points₀ bits₀ at points bits values) where
  ended : length code ≤ at → record { points = points; bits = bits } ≡ after_code code points₀ bits₀
  unfolding instructions_of run
  ended h = rw (drop_of_length-le code h) at w.comes

  pub midway_points : length code ≤ at → points ≡ (after_code code points₀ bits₀).points
  midway_points h = ap (λ (s : State). s.points) (ended h)

  pub midway_bits : length code ≤ at → bits ≡ (after_code code points₀ bits₀).bits
  midway_bits h = ap (λ (s : State). s.bits) (ended h)

  module _ (more : at < length code) where
    abbrev word : ℕ
    word = get_or code at 0

    left : instructions_of (drop at code) ≡ instruction_of word ∷ instructions_of (drop (suc at) code)
    unfolding instructions_of
    left = ap instructions_of (drop-cons code at 0 more)

    fits-here : Fits (length bits) (length w.under_way) (instruction_of word ∷ instructions_of (drop (suc at) code))
    fits-here = rw left at w.fits

    pub midway_steady : Steady word points bits values
    midway_steady =
        record {
          points-room = w.points-room;
          points-binary = w.points-binary;
          bits-binary = w.bits-binary;
          reaches = fits-here.0;
          small = standing_small w.stands;
        }

    module _ {points' bits' : List ℕ} {values' : ℕ} (q : Stepped word points bits values points' bits' values') where
      moved : Moved (instruction_of word) (record { values = w.under_way; state = record { points = points; bits = bits } }) points' bits' values'
      unfolding instruction_of
      moved = rw (q.points-are, q.bits_are, q.values-are) (moves (word % operands) points bits w.points-binary w.bits-binary w.stands (word / operands) fits-here.1)

      pub midway_more : length points' ≡ length points → length bits' ≡ length bits → Midway code points₀ bits₀ (at + 1) points' bits' values'
      unfolding run
      midway_more a b =
          let m = moved in
          record {
            within = omega arith;
            points-long = a ∙ w.points-long;
            bits-long = b ∙ w.bits-long;
            points-room = let r = w.points-room in omega arith;
            points-binary = m.points-binary;
            bits-binary = m.bits-binary;
            under_way = (step (instruction_of word) (record { values = w.under_way; state = record { points = points; bits = bits } })).values;
            stands = m.stands;
            fits = rw (add-one at, b, m.high) fits-here.2;
            comes = rw (add-one at, m.points-are, m.bits_are) (rw left at w.comes);
          }

pub ruleset loop_laws = (midway_start, midway_points, midway_bits, midway_steady, midway_more)
