use Rattle.sets.proofs.skip_sets.Goals as goal
use Rattle.sets.proofs.Reading.{empty_skipped}

pub returns-then-starts_empty : goal.returns-then-starts_empty
returns-then-starts_empty c = empty_skipped _ _ _ (c.starts_empty.ensures c.if-starts_empty.true)
