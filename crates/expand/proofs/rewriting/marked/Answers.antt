use Rattle.expand.proofs.Agreeing.{handed}
use Rattle.expand.proofs.Marking.{marked_refused}
use Rattle.expand.proofs.rewriting.marked.Goals as goal

pub returns-in_err-m : goal.returns-in_err-m
returns-in_err-m c = marked_refused c.mark_form.ensures c.in_err-m.was (handed c.from_residual.ensures.1)
