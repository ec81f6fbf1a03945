use Rattle.std.proofs.Common.{rules, refl}
use Rattle.refusals.proofs.Handing.{handed_on}
use Rattle.asking.proofs.answer.Goals as goal
use Rattle.asking.proofs.Answering.{answer_laws, answer-refused}

pub returns-in_err-t : goal.returns-in_err-t
returns-in_err-t c = rw (handed_on c.from_residual.ensures.1 refl) (answer-refused c.charge.ensures c.in_err-t.was)

pub asked-requires : goal.asked-requires
asked-requires c = search (answer_laws, rules, c.in_ok-t.was)

pub returns : goal.returns
returns c = search (answer_laws, rules, c.in_ok-t.was)
