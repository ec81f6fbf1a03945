use Rattle.std.proofs.Common.{◌≡◌, ℕ, ◌+◌, ◌*◌, ◌%◌, ◌^◌, ◌<◌, ap, ◌∙◌}
use Rattle.std.proofs.lemmas.Nat.{or_shifted}
use Rattle.table.specs.Words.{join}
use Rattle.table.proofs.joined.Goals as goal
use native.Mathlib.Omega.{arith}
use native.Mathlib.Nat.{mod-eq_of_lt}
use lib.Bits.{bit_or}

halves_joined : {high low : ℕ} → high < 2 ^ 32 → low < 2 ^ 32 → bit_or (high * 2 ^ 32 % 2 ^ 64) low ≡ high * 4294967296 + low
halves_joined {high} {low} f g =
    let whole : high * 2 ^ 32 % 2 ^ 64 ≡ high * 2 ^ 32 = mod-eq_of_lt (omega arith) in
    ap (λ (x : ℕ). bit_or x low) whole ∙ or_shifted high 32 low g

pub returns : goal.returns
unfolding join
returns c = let e = c.from.ensures in let e2 = c.from-2.ensures in rw (e, e2) (halves_joined c.ranges.high.fits c.ranges.low.fits)
