use Prim.Native.Nat.{◌-◌}
use lib.ListN.{length}
use Rattle.text_reader.proofs.JudgeLaws.{Judging}
use Rattle.text_reader.proofs.judging.judge.Given as goal

abbrev pub invariant-loop-token : goal.invariant-loop-token
invariant-loop-token l = Judging l.text l.at l.depth l.begun

abbrev pub decreases-loop-token : goal.decreases-loop-token
decreases-loop-token l = length l.text - l.at
