use Rattle.std.proofs.Common.{rules}
use Rattle.refusals.proofs.Handing.{handed_on}
use Rattle.numbers.proofs.Answering.{answering}
use Rattle.recordings.proofs.Changes.{place_tail, change-stops, change-goes, value-stops, value_read}
use Rattle.recordings.proofs.read_change.Goals as goal

pub returns-in_err-place : goal.returns-in_err-place
returns-in_err-place c = handed_on c.from_residual.ensures.1 (change-stops _ _ _ c.read_place.ensures c.in_err-place.was)

pub after-requires : goal.after-requires
after-requires c = search (answering, place_tail, rules, c.in_ok-place.was)

pub returns-in_err-value : goal.returns-in_err-value
returns-in_err-value c =
    handed_on c.from_residual-in_err-value.ensures.1
    (change-goes _ _ _ c.read_place.ensures c.in_ok-place.was c.after.ensures (value-stops _ _ _ c.number_up_to.ensures c.in_err-value.was))

pub returns : goal.returns
returns c = change-goes _ _ _ c.read_place.ensures c.in_ok-place.was c.after.ensures (value_read _ _ _ c.number_up_to.ensures c.in_ok-value.was)
