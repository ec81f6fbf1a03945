use Rattle.std.proofs.Common.{◌+◌, ◌-◌, ◌*◌}
use Rattle.roots.proofs.objects.+measuring_objects.Given as goal
use Rattle.roots.proofs.ObjectLaws.{Parts}

abbrev pub decreases-measure_list : goal.decreases-measure_list
decreases-measure_list l = 3 * l.levels + 2

abbrev pub decreases-measure_object : goal.decreases-measure_object
decreases-measure_object l = 3 * l.levels

abbrev pub decreases-measure_parts : goal.decreases-measure_parts
decreases-measure_parts l = 3 * l.levels + 1

abbrev pub invariant-measure_parts-loop : goal.invariant-measure_parts-loop
invariant-measure_parts-loop l = Parts l.c.at l.symbols l.scopes l.levels l.s l.count l.here.at (l.count - l.counter) l.sum
