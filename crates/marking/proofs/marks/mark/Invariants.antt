use Rattle.things.specs.Rep.{sets_of}
use Rattle.marking.proofs.MarkLaws.{Marking}
use Rattle.marking.proofs.marks.mark.Given as goal

abbrev pub invariant-loop-place : goal.invariant-loop-place
invariant-loop-place l = Marking l.store l.lasts l.befores l.x (sets_of l.sets) l.initial.marks l.marks l.place

abbrev pub decreases-loop-place : goal.decreases-loop-place
decreases-loop-place l = l.place
