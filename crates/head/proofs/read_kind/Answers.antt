use Rattle.std.proofs.Common.{arith}
use Rattle.head.proofs.read_kind.Goals as goal
use Rattle.refusals.proofs.Handing.{handed_on}
use Rattle.head.proofs.Reading.{kind-stops, kind-unknown, kind-wrong, kind_right}

pub returns-in_err-k : goal.returns-in_err-k
returns-in_err-k c = handed_on c.from_residual.ensures.1 (kind-stops _ _ c.number.ensures c.in_err-k.was)

pub returns-then-k-eq0 : goal.returns-then-k-eq0
returns-then-k-eq0 c = kind-unknown _ _ c.number.ensures c.in_ok-k.was c.then-k-eq0.either

pub returns-then-k-kind : goal.returns-then-k-kind
returns-then-k-kind c = kind-wrong _ _ c.number.ensures c.in_ok-k.was c.if-k-eq0.false (omega arith) c.if-k-kind.true

pub returns : goal.returns
returns c = kind_right _ _ c.number.ensures c.in_ok-k.was c.if-k-eq0.false (omega arith) c.if-k-kind.false
