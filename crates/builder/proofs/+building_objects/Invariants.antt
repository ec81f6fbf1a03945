use Rattle.std.proofs.Common.{◌+◌, ◌-◌, ◌*◌, length}
use Rattle.builder.specs.Reads.{ObjectsRead}
use Rattle.builder.proofs.+building_objects.Given as goal
use Rattle.builder.proofs.ChainLaws.{Going}

abbrev pub decreases-object : goal.decreases-object
decreases-object l = (length l.image.now - l.at) * 3

abbrev pub decreases-objects : goal.decreases-objects
decreases-objects l = (length l.image.now - l.at) * 3 + 1

abbrev pub invariant-objects-loop : goal.invariant-objects-loop
invariant-objects-loop l = Going (ObjectsRead l.scopes) l.count l.initial.table l.top l.image l.at l.table l.end l.past (l.count - l.counter) l.turned
