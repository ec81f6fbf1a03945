use Prim.Native.Nat.{◌-◌}
use lib.ListN.{length}
use Rattle.text_reader.proofs.MeasureLaws.{Measuring}
use Rattle.text_reader.proofs.measuring.root_len.Given as goal

abbrev pub invariant-loop-len : goal.invariant-loop-len
invariant-loop-len l = Measuring l.words.text.now l.words.spans.now l.words.count l.at l.len

abbrev pub decreases-loop-len : goal.decreases-loop-len
decreases-loop-len l = length l.words.text.now - l.at
