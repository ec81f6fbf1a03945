use Rattle.std.proofs.Common.{◌+◌, ◌-◌, ◌*◌}
use Rattle.roots.proofs.+measuring_trees.Given as goal
use Rattle.roots.proofs.Trees.{All}

abbrev pub decreases-measure_all : goal.decreases-measure_all
decreases-measure_all l = 4 * l.levels + 1

abbrev pub decreases-measure_body : goal.decreases-measure_body
decreases-measure_body l = 4 * l.levels - 1

abbrev pub decreases-measure_function : goal.decreases-measure_function
decreases-measure_function l = 4 * l.levels + 1

abbrev pub decreases-measure_several : goal.decreases-measure_several
decreases-measure_several l = 4 * l.levels + 2

abbrev pub decreases-measure_tree : goal.decreases-measure_tree
decreases-measure_tree l = 4 * l.levels

abbrev pub invariant-measure_all-loop : goal.invariant-measure_all-loop
invariant-measure_all-loop l = All l.c.at l.counts l.levels l.low l.s l.initial.around l.count l.around l.here.at (l.count - l.counter) l.size l.owned
