use Rattle.replacing.proofs.LocateLaws.{Midway}
use Rattle.replacing.proofs.locating.locate.Given as goal

abbrev pub invariant-loop-left : goal.invariant-loop-left
invariant-loop-left l = Midway l.counts l.c.at l.s l.place l.here.at l.left l.levels l.low

abbrev pub decreases-loop-left : goal.decreases-loop-left
decreases-loop-left l = l.left
