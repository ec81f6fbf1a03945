use Rattle.sets.proofs.read_sets.Goals as goal
use Rattle.sets.proofs.Reading.{empty-sets}

pub returns-then-starts_empty : goal.returns-then-starts_empty
returns-then-starts_empty c = empty-sets _ _ _ (c.starts_empty.ensures c.if-starts_empty.true) c.empty-none.ensures
