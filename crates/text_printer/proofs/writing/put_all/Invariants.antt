use Prim.Native.Nat.{◌+◌, ◌-◌, ◌*◌}
use lib.ListN.{length}
use Rattle.text_printer.proofs.TextLaws.{Writing}
use Rattle.text_printer.proofs.writing.put_all.Given as goal

abbrev pub invariant-loop-step : goal.invariant-loop-step
invariant-loop-step l = Writing l.initial.out l.words.image.now l.words.starts.now l.words.count l.initial.left l.out l.left l.w l.due l.to

abbrev pub decreases-loop-step : goal.decreases-loop-step
decreases-loop-step l = (length l.words.image.now - l.w.at) * 2 + l.w.depth
