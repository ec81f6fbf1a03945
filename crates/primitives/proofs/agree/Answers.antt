use Rattle.primitives.proofs.agree.Goals as goal
use Rattle.primitives.proofs.agree.Goals.{then-a-b, else-a-b}
use Rattle.primitives.proofs.Atoms.{agree_kind, agree_content}

pub returns : goal.returns
returns c = elim c.if-a-b.branch [ then-a-b w ↦ agree_content _ _ c.from.ensures w.if-a-b.true w.from-is | else-a-b w ↦ agree_kind _ _ c.from.ensures w.if-a-b.false w.from-is ]
