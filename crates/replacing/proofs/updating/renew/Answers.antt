use Rattle.replacing.proofs.UpdateLaws.{renew_laws}
use Rattle.std.proofs.Common.{rules}
use Rattle.replacing.proofs.updating.renew.Goals as goal

pub entry_after-after-requires-clause-small : goal.entry_after-after-requires-clause-small
entry_after-after-requires-clause-small c = search (renew_laws, rules)

pub loop-n-preserved : goal.loop-n-preserved
loop-n-preserved c = search (renew_laws, rules)
