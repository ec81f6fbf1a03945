use Rattle.std.proofs.Common.{◌+◌, ◌*◌}
use Rattle.parse.proofs.+parsing.Given as goal
use Rattle.parse.proofs.InTurn.{Going}

abbrev pub decreases-application : goal.decreases-application
decreases-application l = l.s.left * 8 + 3

abbrev pub decreases-entry : goal.decreases-entry
decreases-entry l = l.s.left * 8 + 6

abbrev pub decreases-form : goal.decreases-form
decreases-form l = l.s.left * 8 + 4

abbrev pub decreases-function : goal.decreases-function
decreases-function l = l.s.left * 8 + 1

abbrev pub decreases-lambda : goal.decreases-lambda
decreases-lambda l = l.s.left * 8 + 2

abbrev pub decreases-list : goal.decreases-list
decreases-list l = l.s.left * 8 + 5

abbrev pub decreases-parse : goal.decreases-parse
decreases-parse l = l.s.left * 8

abbrev pub decreases-parts : goal.decreases-parts
decreases-parts l = l.s.left * 8 + 2

abbrev pub invariant-parts-loop-from : goal.invariant-parts-loop-from
invariant-parts-loop-from l = Going l.entries l.phase l.store l.initial.table l.initial.t l.c l.table l.t l.from l.turned

abbrev pub decreases-parts-loop-from : goal.decreases-parts-loop-from
decreases-parts-loop-from l = l.from
