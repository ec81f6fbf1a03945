use Rattle.ranking.proofs.KeptLaws.{kept_laws}
use Rattle.std.proofs.Common.{rules}
use Rattle.ranking.proofs.kept.put_kept.Goals as goal
use Rattle.ranking.proofs.kept.put_kept.Goals.{then-mark-ne0, else-mark-ne0}

pub loop-i-init : goal.loop-i-init
loop-i-init c = search (kept_laws, rules)

pub put_binding-here-requires : goal.put_binding-here-requires
put_binding-here-requires c = search (kept_laws, rules)

pub loop-i-preserved : goal.loop-i-preserved
loop-i-preserved c = elim c.if-mark-ne0.branch [
  | then-mark-ne0 w ↦ rw (w.out-is, w.here-is) (search (kept_laws, rules))
  | else-mark-ne0 w ↦ rw (w.out-is, w.here-is) (search (kept_laws, rules))
]

pub returns : goal.returns
returns c = search (kept_laws, rules)
