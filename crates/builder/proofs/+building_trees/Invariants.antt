use Rattle.std.proofs.Common.{◌+◌, ◌-◌, ◌*◌, length}
use Rattle.builder.specs.Reads.{TreesRead}
use Rattle.builder.proofs.+building_trees.Given as goal
use Rattle.builder.proofs.ChainLaws.{Going}

abbrev pub decreases-function : goal.decreases-function
decreases-function l = (length l.image.now - l.at) * 3 + 1

abbrev pub decreases-list : goal.decreases-list
decreases-list l = (length l.image.now - l.at) * 3 + 2

abbrev pub decreases-tree : goal.decreases-tree
decreases-tree l = (length l.image.now - l.at) * 3

abbrev pub decreases-trees : goal.decreases-trees
decreases-trees l = (length l.image.now - l.at) * 3 + 1

abbrev pub invariant-trees-loop : goal.invariant-trees-loop
invariant-trees-loop l = Going (TreesRead l.scopes) l.count l.initial.table l.top l.image l.at l.table l.end l.past (l.count - l.counter) l.turned
