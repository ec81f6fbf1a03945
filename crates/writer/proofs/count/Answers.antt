use Rattle.std.proofs.Common.{rules}
use Rattle.writer.proofs.count.Goals as goal
use Rattle.writer.proofs.Counting.{walking}

pub loop-place-smaller : goal.loop-place-smaller
loop-place-smaller c = search (walking, rules)

pub loop-place-preserved : goal.loop-place-preserved
loop-place-preserved c = search (walking, rules)

pub returns : goal.returns
returns c = search (walking, rules)
