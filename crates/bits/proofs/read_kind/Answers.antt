use Rattle.std.proofs.Common.{rules}
use Rattle.refusals.proofs.Handing.{handed_on}
use Rattle.bits.proofs.read_kind.Goals as goal
use Rattle.numbers.proofs.Answering.{answering}
use Rattle.bits.proofs.Tokens.{kind-stops, kind-read}

pub returns-in_err-kind : goal.returns-in_err-kind
returns-in_err-kind c = handed_on c.from_residual.ensures.1 (kind-stops _ _ c.number.ensures c.in_err-kind.was)

pub after-requires : goal.after-requires
after-requires c = search (answering, rules, c.in_ok-kind.was)

pub returns : goal.returns
returns c = kind-read _ _ c.number.ensures c.in_ok-kind.was c.after.ensures c.read_content.ensures
