use Rattle.std.proofs.Common.{◌+◌, ◌*◌}
use Rattle.substitution.proofs.+substituting.Given as goal
use Rattle.substitution.proofs.Parts.{Going}

abbrev pub decreases-substitute : goal.decreases-substitute
decreases-substitute l = l.i * 2 + 2

abbrev pub decreases-substitute_body : goal.decreases-substitute_body
decreases-substitute_body l = l.b * 2 + 3

abbrev pub decreases-substitute_list : goal.decreases-substitute_list
decreases-substitute_list l = l.c * 2 + 1

abbrev pub decreases-substitute_parts : goal.decreases-substitute_parts
decreases-substitute_parts l = l.c * 2

abbrev pub invariant-substitute_parts-loop-from : goal.invariant-substitute_parts-loop-from
invariant-substitute_parts-loop-from l = Going l.initial.table l.top l.c l.x.0 l.v l.table l.end l.from l.turned

abbrev pub decreases-substitute_parts-loop-from : goal.decreases-substitute_parts-loop-from
decreases-substitute_parts-loop-from l = l.from
