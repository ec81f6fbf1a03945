use Rattle.text_image.proofs.PlaceLaws.{Counting}
use Rattle.text_image.proofs.positions.past.Given as goal

abbrev pub invariant-loop-i : goal.invariant-loop-i
invariant-loop-i l = Counting l.front l.line l.column l.i
