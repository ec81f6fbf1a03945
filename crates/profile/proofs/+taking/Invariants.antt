use Prim.Native.Nat.{◌+◌, ◌*◌}
use Rattle.profile.proofs.Taking.{All}
use Rattle.profile.proofs.+taking.Given as goal

abbrev pub decreases-take_all : goal.decreases-take_all
decreases-take_all l = 8 * l.levels + 2

abbrev pub invariant-take_all-loop : goal.invariant-take_all-loop
invariant-take_all-loop l = All l.c.at l.names l.levels l.wanted l.s l.initial.around l.count l.around l.here.at l.counter

abbrev pub decreases-take_application : goal.decreases-take_application
decreases-take_application l = 8 * l.levels + 5

abbrev pub decreases-take_arguments : goal.decreases-take_arguments
decreases-take_arguments l = 8 * l.levels + 3

abbrev pub decreases-take_bit : goal.decreases-take_bit
decreases-take_bit l = 8 * l.levels + 3

abbrev pub decreases-take_body : goal.decreases-take_body
decreases-take_body l = 8 * l.levels + 6

abbrev pub decreases-take_head : goal.decreases-take_head
decreases-take_head l = 8 * l.levels + 4

abbrev pub decreases-take_tree : goal.decreases-take_tree
decreases-take_tree l = 8 * l.levels
