use Rattle.std.proofs.Common.{◌+◌, ◌*◌}
use Rattle.writer.proofs.+thing_lengths.Given as goal
use Rattle.writer.proofs.Counting.{Count}

abbrev pub decreases-thing_len : goal.decreases-thing_len
decreases-thing_len l = l.i * 2 + 1

abbrev pub decreases-things_len : goal.decreases-things_len
decreases-things_len l = l.c * 2

abbrev pub invariant-things_len-loop-place : goal.invariant-things_len-loop-place
invariant-things_len-loop-place l = Count l.lead l.table l.c l.n l.cap l.place l.m

abbrev pub decreases-things_len-loop-place : goal.decreases-things_len-loop-place
decreases-things_len-loop-place l = l.place
