use Prim.Native.Nat.{◌-◌}
use mathlib.Core.Path.{◌≡◌}
use lib.ListN.{length}
use Rattle.text_reader.proofs.LimitLaws.{Limiting}
use Rattle.text_reader.proofs.limits.limit.Given as goal

abbrev pub invariant-loop-token : goal.invariant-loop-token
invariant-loop-token l = (length l.spans ≡ length l.initial.spans) × Limiting l.text l.spans l.at l.level l.count

abbrev pub decreases-loop-token : goal.decreases-loop-token
decreases-loop-token l = length l.text - l.at
