use Rattle.refusals.proofs.Handing.{handed_on}
use Rattle.numbers.proofs.Answering.{read-moved, read-within}
use Rattle.numbers.proofs.Tails.{num_tail}
use Rattle.places.proofs.Things.{atom-stops, held-stops, held-read}
use Rattle.places.proofs.read_atom.Goals as goal

pub returns-in_err-past : goal.returns-in_err-past
returns-in_err-past c = handed_on c.from_residual.ensures.1 (atom-stops _ _ c.number.ensures c.in_err-past.was)

pub after-requires : goal.after-requires
after-requires c = (read-moved _ _ _ c.number.ensures c.in_ok-past.was (num_tail _), read-within _ _ _ c.number.ensures c.in_ok-past.was (num_tail _))

pub returns-in_err-end : goal.returns-in_err-end
returns-in_err-end c = handed_on c.from_residual-in_err-end.ensures.1 (held-stops _ _ c.number.ensures c.in_ok-past.was c.after.ensures c.number-2.ensures c.in_err-end.was)

pub returns : goal.returns
returns c = held-read _ _ c.number.ensures c.in_ok-past.was c.after.ensures c.number-2.ensures c.in_ok-end.was
