use Rattle.wiring.specs.Words.{join_number}
use Rattle.wiring.proofs.Expressions.{Parts}
use Prim.Native.Nat.{◌+◌, ◌*◌}
use Rattle.wiring.proofs.+wiring_expressions.Given as goal

abbrev pub decreases-wire_application : goal.decreases-wire_application
decreases-wire_application l = 4 * l.levels + 2

abbrev pub decreases-wire_parts : goal.decreases-wire_parts
decreases-wire_parts l = 4 * l.levels + 1

abbrev pub invariant-wire_parts-loop : goal.invariant-wire_parts-loop
invariant-wire_parts-loop l = Parts l.c.at l.levels l.around l.s l.count (join_number l.others) l.parts l.initial.code l.here.at l.counter l.words (join_number l.join) l.code

abbrev pub decreases-wire_tree : goal.decreases-wire_tree
decreases-wire_tree l = 4 * l.levels
