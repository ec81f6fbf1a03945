use Rattle.std.proofs.Common.{refl}
use borrow.Author.Tests.{not-true, not-false}
use Rattle.image.proofs.judge_tree.Goals as goal
use Rattle.refusals.proofs.Handing.{handed_on}
use Rattle.image.proofs.TreeImages.{tree-long, head-stops, root-stops, unowned, all-good}
use Rattle.image.proofs.Heads.{few-scopes, few-names, few_words, rest-fits, counted-scopes, counted-names}

pub returns-then-image-gt-MOST_IMAGE : goal.returns-then-image-gt-MOST_IMAGE
returns-then-image-gt-MOST_IMAGE c = tree-long _ c.if-image-gt-MOST_IMAGE.true

pub returns-in_err-head : goal.returns-in_err-head
returns-in_err-head c = head-stops _ c.type_inv.image c.if-image-gt-MOST_IMAGE.false c.read_head.ensures c.in_err-head.was (handed_on c.from_residual.ensures.1 refl)

pub counts-requires : goal.counts-requires
counts-requires c = few_words _ _ c.type_inv.image c.read_head.ensures c.in_ok-head.was

pub measure_tree_root-requires : goal.measure_tree_root-requires
measure_tree_root-requires c =
    (rest-fits _ _ c.type_inv.image c.read_head.ensures c.in_ok-head.was c.if-image-gt-MOST_IMAGE.false c.after.ensures, counted-scopes _ c.counts.ensures (few-scopes _ _ c.type_inv.image c.read_head.ensures c.in_ok-head.was), counted-names _ c.counts.ensures (few-names _ _ c.type_inv.image c.read_head.ensures c.in_ok-head.was))

pub returns-in_err-extent : goal.returns-in_err-extent
returns-in_err-extent c =
    root-stops _ c.type_inv.image c.if-image-gt-MOST_IMAGE.false c.read_head.ensures c.in_ok-head.was c.after.ensures c.counts.ensures c.measure_tree_root.ensures c.in_err-extent.was (handed_on c.from_residual-in_err-extent.ensures.1 refl)

pub returns-then-not-extent : goal.returns-then-not-extent
returns-then-not-extent c =
    unowned _ c.type_inv.image c.if-image-gt-MOST_IMAGE.false c.read_head.ensures c.in_ok-head.was c.after.ensures c.counts.ensures c.measure_tree_root.ensures c.in_ok-extent.was (not-true _ c.if-not-extent.true)

pub returns : goal.returns
returns c =
    all-good _ c.type_inv.image c.if-image-gt-MOST_IMAGE.false c.read_head.ensures c.in_ok-head.was c.after.ensures c.counts.ensures c.measure_tree_root.ensures c.in_ok-extent.was (not-false _ c.if-not-extent.false)
