use Rattle.std.proofs.Common.{refl}
use Rattle.head.proofs.read_counts.Goals as goal
use Rattle.refusals.proofs.Handing.{handed_on}
use Rattle.head.proofs.Reading.{made-stops, made-few, scopes_stop, counts-read}

pub returns-in_err-made : goal.returns-in_err-made
returns-in_err-made c = made-stops _ _ _ c.requires.1 c.number_up_to.ensures c.in_err-made.was (handed_on c.from_residual.ensures.1 refl)

pub returns-in_err-scopes : goal.returns-in_err-scopes
returns-in_err-scopes c = scopes_stop _ _ _ c.requires.1 c.number_up_to.ensures c.in_ok-made.was c.number_up_to-2.ensures c.in_err-scopes.was (handed_on c.from_residual-in_err-scopes.ensures.1 refl)

pub overflow_add-names-2 : goal.overflow_add-names-2
overflow_add-names-2 c = made-few _ _ _ c.requires.1 c.number_up_to.ensures c.in_ok-made.was c.requires.2

pub returns : goal.returns
returns c = counts-read _ _ _ c.requires.1 c.number_up_to.ensures c.in_ok-made.was c.number_up_to-2.ensures c.in_ok-scopes.was
