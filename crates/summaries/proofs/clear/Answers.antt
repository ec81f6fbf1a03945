use Rattle.summaries.proofs.MakeLaws.{filled}
use Rattle.summaries.proofs.clear.Goals as goal

pub returns : goal.returns
returns c = filled c.requires c.entry_at-end.ensures (c.fill.ensures.after (λ y e. e))
