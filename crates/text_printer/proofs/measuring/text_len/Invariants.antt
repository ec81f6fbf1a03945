use Prim.Native.Nat.{◌+◌, ◌-◌, ◌*◌}
use lib.ListN.{length}
use Rattle.text_printer.proofs.TextLaws.{Measuring}
use Rattle.text_printer.proofs.measuring.text_len.Given as goal

abbrev pub invariant-loop-len : goal.invariant-loop-len
invariant-loop-len l = Measuring l.words.image.now l.words.starts.now l.words.count l.initial.left l.most l.left l.w l.due l.len

abbrev pub decreases-loop-len : goal.decreases-loop-len
decreases-loop-len l = (length l.words.image.now - l.w.at) * 2 + l.w.depth
