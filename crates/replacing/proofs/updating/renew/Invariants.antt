use Rattle.replacing.proofs.UpdateLaws.{Renewing}
use Rattle.replacing.proofs.updating.renew.Given as goal

abbrev pub invariant-loop-n : goal.invariant-loop-n
invariant-loop-n l = Renewing l.old l.new l.change l.behind.count l.s l.counts l.initial.words l.n l.words
