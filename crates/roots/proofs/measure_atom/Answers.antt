use Rattle.roots.proofs.measure_atom.Goals as goal
use Rattle.refusals.proofs.Handing.{handed_on}
use Rattle.numbers.proofs.Tails.{num_tail}
use Rattle.numbers.proofs.Answering.{read-moved, read-within}
use Rattle.roots.proofs.Trees.{atom-stops, content-stops, atom-read}

pub returns-in_err-tag : goal.returns-in_err-tag
returns-in_err-tag c = handed_on c.from_residual.ensures.1 (atom-stops _ _ _ c.number.ensures c.in_err-tag.was)

pub after-requires : goal.after-requires
after-requires c = (read-moved _ _ _ c.number.ensures c.in_ok-tag.was (num_tail _), read-within _ _ _ c.number.ensures c.in_ok-tag.was (num_tail _))

pub returns-in_err-end : goal.returns-in_err-end
returns-in_err-end c = handed_on c.from_residual-in_err-end.ensures.1 (content-stops _ _ _ c.number.ensures c.in_ok-tag.was c.after.ensures c.read_content.ensures c.in_err-end.was)

pub returns : goal.returns
returns c = atom-read _ _ _ c.number.ensures c.in_ok-tag.was c.after.ensures c.read_content.ensures c.in_ok-end.was
