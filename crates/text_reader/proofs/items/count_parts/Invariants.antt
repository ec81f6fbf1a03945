use Prim.Native.Nat.{◌-◌}
use lib.ListN.{length}
use Rattle.text_reader.proofs.ItemLaws.{Counting}
use Rattle.text_reader.proofs.items.count_parts.Given as goal

abbrev pub invariant-loop-count : goal.invariant-loop-count
invariant-loop-count l = Counting l.text l.at l.here l.depth l.count

abbrev pub decreases-loop-count : goal.decreases-loop-count
decreases-loop-count l = length l.text - l.here
