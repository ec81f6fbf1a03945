use Rattle.std.proofs.Common.{refl}
use Rattle.sets.proofs.read_each_set.Goals as goal
use Rattle.numbers.proofs.Answering.{seen_handed, read-moved, read-within, row-moved, row-within}
use Rattle.sets.proofs.Reading.{set_tail, first_stops, second-stops, first, second, third-stops, sets-read}

pub returns-in_err-at0 : goal.returns-in_err-at0
returns-in_err-at0 c = seen_handed _ _ c.from_residual.ensures.1 (first_stops _ _ _ c.in_err-at0.ensures refl)

pub after-requires : goal.after-requires
after-requires c = (read-moved _ _ _ c.in_ok-at0.ensures refl (set_tail _ _), read-within _ _ _ c.in_ok-at0.ensures refl (set_tail _ _))

pub returns-in_err-at1 : goal.returns-in_err-at1
returns-in_err-at1 c = seen_handed _ _ c.from_residual-in_err-at1.ensures.1 (second-stops _ _ _ c.in_ok-at0.ensures refl c.after.ensures c.in_err-at1.ensures refl)

pub after-requires-2 : goal.after-requires-2
after-requires-2 c =
    let T = first _ _ _ c.in_ok-at0.ensures refl c.after.ensures c.in_ok-at1.ensures refl in
    let U = second _ _ _ c.in_ok-at0.ensures refl c.after.ensures c.in_ok-at1.ensures refl in
    (row-moved T c.after.ensures U, row-within T c.after.ensures U)

pub returns-in_err-at2 : goal.returns-in_err-at2
returns-in_err-at2 c = seen_handed _ _ c.from_residual-in_err-at2.ensures.1 (third-stops _ _ _ c.in_ok-at0.ensures refl c.after.ensures c.in_ok-at1.ensures refl c.after-2.ensures c.in_err-at2.ensures refl)

pub returns : goal.returns
returns c = sets-read _ _ _ c.in_ok-at0.ensures refl c.after.ensures c.in_ok-at1.ensures refl c.after-2.ensures c.in_ok-at2.ensures refl
