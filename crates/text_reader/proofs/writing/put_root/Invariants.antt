use Prim.Native.Nat.{◌-◌}
use lib.ListN.{length}
use Rattle.text_reader.proofs.WriteLaws.{Rooting}
use Rattle.text_reader.proofs.writing.put_root.Given as goal

abbrev pub invariant-loop-item : goal.invariant-loop-item
invariant-loop-item l = Rooting l.initial.out l.at l.words.text.now l.words.spans.now l.words.count l.out l.here l.to

abbrev pub decreases-loop-item : goal.decreases-loop-item
decreases-loop-item l = length l.words.text.now - l.here
