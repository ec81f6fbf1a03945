use Rattle.std.proofs.Common.{rules}
use Rattle.refusals.proofs.Handing.{handed_on}
use Rattle.bits.proofs.read_token.Goals as goal
use Rattle.numbers.proofs.Answering.{answering}
use Rattle.bits.proofs.Tokens.{token-stops, token-atom, token-other}

pub returns-in_err-tag : goal.returns-in_err-tag
returns-in_err-tag c = handed_on c.from_residual.ensures.1 (token-stops _ _ c.number.ensures c.in_err-tag.was)

pub after-requires : goal.after-requires
after-requires c = search (answering, rules, c.in_ok-tag.was)

pub after-requires-else-tag-eq-ATOM : goal.after-requires-else-tag-eq-ATOM
after-requires-else-tag-eq-ATOM c = search (answering, rules, c.in_ok-tag.was)

pub returns-then-tag-eq-ATOM : goal.returns-then-tag-eq-ATOM
returns-then-tag-eq-ATOM c = token-atom _ _ c.number.ensures c.in_ok-tag.was c.after.ensures c.if-tag-eq-ATOM.true c.read_kind.ensures

pub returns-else-tag-eq-ATOM : goal.returns-else-tag-eq-ATOM
returns-else-tag-eq-ATOM c = token-other _ _ c.number.ensures c.in_ok-tag.was c.after-else-tag-eq-ATOM.ensures c.if-tag-eq-ATOM.false c.read_content.ensures
