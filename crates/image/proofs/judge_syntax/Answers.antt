use Rattle.std.proofs.Common.{refl}
use Rattle.image.proofs.judge_syntax.Goals as goal
use Rattle.refusals.proofs.Handing.{handed_on}
use Rattle.image.proofs.Answers.{too_long_lem}
use Rattle.image.proofs.Images.{head-stops, rest-judged}
use Rattle.image.proofs.Heads.{few-scopes, few_words, rest-fits}

pub returns-then-image-gt-MOST_IMAGE : goal.returns-then-image-gt-MOST_IMAGE
returns-then-image-gt-MOST_IMAGE c = too_long_lem _ _ _ c.if-image-gt-MOST_IMAGE.true

pub returns-in_err-head : goal.returns-in_err-head
returns-in_err-head c = head-stops _ _ c.type_inv.image c.if-image-gt-MOST_IMAGE.false c.read_head.ensures c.in_err-head.was (handed_on c.from_residual.ensures.1 refl)

pub judge_rest-requires-clause-image : goal.judge_rest-requires-clause-image
judge_rest-requires-clause-image c =
    (rest-fits _ _ c.type_inv.image c.read_head.ensures c.in_ok-head.was c.if-image-gt-MOST_IMAGE.false c.after.ensures, few-scopes _ _ c.type_inv.image c.read_head.ensures c.in_ok-head.was, few_words _ _ c.type_inv.image c.read_head.ensures c.in_ok-head.was)

pub returns : goal.returns
returns c = rest-judged _ _ c.type_inv.image c.if-image-gt-MOST_IMAGE.false c.read_head.ensures c.in_ok-head.was c.after.ensures c.judge_rest.ensures
