use Rattle.wiring.proofs.Wholes.{Programs}
use Prim.Native.Nat.{◌+◌, ◌*◌}
use Rattle.wiring.proofs.+wiring_programs.Given as goal

abbrev pub decreases-wire_bit : goal.decreases-wire_bit
decreases-wire_bit l = 5 * l.levels + 3

abbrev pub decreases-wire_head : goal.decreases-wire_head
decreases-wire_head l = 5 * l.levels + 4

abbrev pub decreases-wire_inside : goal.decreases-wire_inside
decreases-wire_inside l = 5 * l.levels + 2

abbrev pub decreases-wire_program : goal.decreases-wire_program
decreases-wire_program l = 5 * l.levels

abbrev pub decreases-wire_programs : goal.decreases-wire_programs
decreases-wire_programs l = 5 * l.levels + 1

abbrev pub invariant-wire_programs-loop : goal.invariant-wire_programs-loop
invariant-wire_programs-loop l = Programs l.c.at l.levels l.initial.around l.s l.initial.wired l.parts l.initial.code l.initial.bits l.here.at l.counter l.wired l.around l.code l.bits
