use Rattle.std.proofs.Common.{refl}
use Rattle.bindings.proofs.loading.read_binding.Goals as goal
use Rattle.numbers.proofs.Answering.{seen_handed, read-moved, read-within, row-moved, row-within}
use Rattle.numbers.proofs.Tails.{below_tail}
use Rattle.bindings.proofs.InTurn.{symbol-stops, target-stops, symbol-took, target-took, set-stops, binding-read}

pub returns-in_err-x : goal.returns-in_err-x
returns-in_err-x c = seen_handed _ _ c.from_residual.ensures.1 (symbol-stops _ _ _ c.number_below.ensures c.in_err-x.was)

pub after-requires : goal.after-requires
after-requires c = (read-moved _ _ _ c.in_ok-x.ensures refl (below_tail _ _), read-within _ _ _ c.in_ok-x.ensures refl (below_tail _ _))

pub returns-in_err-t : goal.returns-in_err-t
returns-in_err-t c = seen_handed _ _ c.from_residual-in_err-t.ensures.1 (target-stops _ _ _ c.in_ok-x.ensures refl c.after.ensures c.in_err-t.ensures refl)

pub after-requires-2 : goal.after-requires-2
after-requires-2 c =
    let T = symbol-took _ c.args.counts _ c.in_ok-x.ensures refl c.after.ensures c.in_ok-t.ensures refl in
    let U = target-took _ c.args.counts _ c.in_ok-x.ensures refl c.after.ensures c.in_ok-t.ensures refl in
    (row-moved T c.after.ensures U, row-within T c.after.ensures U)

pub returns-in_err-set : goal.returns-in_err-set
returns-in_err-set c = seen_handed _ _ c.from_residual-in_err-set.ensures.1 (set-stops _ _ _ c.in_ok-x.ensures refl c.after.ensures c.in_ok-t.ensures refl c.after-2.ensures c.in_err-set.ensures refl)

pub returns : goal.returns
returns c = binding-read _ _ _ c.in_ok-x.ensures refl c.after.ensures c.in_ok-t.ensures refl c.after-2.ensures c.in_ok-set.ensures refl
