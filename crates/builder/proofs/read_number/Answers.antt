use Rattle.builder.proofs.read_number.Goals as goal
use Rattle.builder.proofs.Fronts.{number_read}

pub returns : goal.returns
returns c = number_read c.requires c.number.ensures c.in-Ok.is
