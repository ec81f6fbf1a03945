use Rattle.builder.proofs.read_front.Goals as goal
use Rattle.builder.proofs.Fronts.{number-here, front_read}

pub read_number-number-requires : goal.read_number-number-requires
read_number-number-requires c = number-here c.requires c.read_number-tag.ensures c.in-Ok.is c.read_sets.ensures

pub returns : goal.returns
returns c = front_read c.requires c.read_number-tag.ensures c.in-Ok.is c.read_sets.ensures c.read_number-number.ensures
