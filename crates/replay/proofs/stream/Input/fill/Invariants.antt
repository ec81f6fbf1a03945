use Rattle.std.proofs.Common.{◌≡◌, length}
use Rattle.replay.proofs.stream.Input.fill.Given as goal

abbrev pub invariant-loop-i : goal.invariant-loop-i
invariant-loop-i l = (l.i-end ≡ length l.initial.into) × (length l.into ≡ length l.initial.into)
