use Rattle.std.proofs.Common.{rules}
use Rattle.refusals.proofs.Handing.{handed_on}
use Rattle.numbers.proofs.Answering.{answering}
use Rattle.profile.proofs.take_atom.Goals as goal
use Rattle.profile.proofs.Taking.{atom-stops, content-stops, atom-taken, atom-refused}

pub returns-in_err-kind : goal.returns-in_err-kind
returns-in_err-kind c = handed_on c.from_residual.ensures.1 (atom-stops _ _ _ c.number.ensures c.in_err-kind.was)

pub after-requires : goal.after-requires
after-requires c = search (answering, rules, c.in_ok-kind.was)

pub returns-in_err-content : goal.returns-in_err-content
returns-in_err-content c = handed_on c.from_residual-in_err-content.ensures.1 (content-stops _ _ _ c.number.ensures c.in_ok-kind.was c.after.ensures c.number-2.ensures c.in_err-content.was)

pub returns-then-takes_atom : goal.returns-then-takes_atom
returns-then-takes_atom c = atom-taken _ _ _ c.number.ensures c.in_ok-kind.was c.after.ensures c.number-2.ensures c.in_ok-content.was c.takes_atom.ensures c.if-takes_atom.true

pub returns-else-takes_atom : goal.returns-else-takes_atom
returns-else-takes_atom c = atom-refused _ _ _ c.number.ensures c.in_ok-kind.was c.after.ensures c.number-2.ensures c.in_ok-content.was c.takes_atom.ensures c.if-takes_atom.false
