use Rattle.std.proofs.Common.{refl}
use Rattle.bindings.proofs.loading.read_some.Goals as goal
use Rattle.numbers.proofs.Answering.{read-moved, read-within}
use Rattle.refusals.proofs.Handing.{handed_on}
use Rattle.bindings.proofs.InTurn.{one_tail, some-none, some-stops, some-goes}

pub returns-then-count-eq0 : goal.returns-then-count-eq0
returns-then-count-eq0 c = some-none c.if-count-eq0.true

pub returns-in_err-b : goal.returns-in_err-b
returns-in_err-b c =
    rw (handed_on c.from_residual.ensures.1 refl) (some-stops _ _ _ _ _ c.if-count-eq0.false c.in_err-b.ensures refl)

pub after-requires : goal.after-requires
after-requires c = (read-moved _ _ _ c.in_ok-b.ensures refl (one_tail _ _), read-within _ _ _ c.in_ok-b.ensures refl (one_tail _ _))

pub returns : goal.returns
returns c = some-goes _ _ _ _ _ c.if-count-eq0.false c.in_ok-b.ensures refl c.after.ensures c.put.ensures c.read_more.ensures
