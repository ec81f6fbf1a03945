use Rattle.roots.proofs.objects.read_top.Goals as goal
use Rattle.refusals.proofs.Handing.{handed_on}
use Rattle.numbers.proofs.Tails.{up_to_tail}
use Rattle.numbers.proofs.Answering.{read-moved, read-within}
use Rattle.roots.proofs.ObjectLaws.{top-stops, top_sets_stop, top_read}

pub returns-in_err-tag : goal.returns-in_err-tag
returns-in_err-tag c = handed_on c.from_residual.ensures.1 (top-stops _ _ _ c.number_up_to.ensures c.in_err-tag.was)

pub after-requires : goal.after-requires
after-requires c = (read-moved _ _ _ c.number_up_to.ensures c.in_ok-tag.was (up_to_tail _ _ _), read-within _ _ _ c.number_up_to.ensures c.in_ok-tag.was (up_to_tail _ _ _))

pub returns-in_err-behind : goal.returns-in_err-behind
returns-in_err-behind c = handed_on c.from_residual-in_err-behind.ensures.1 (top_sets_stop _ _ _ c.number_up_to.ensures c.in_ok-tag.was c.after.ensures c.skip_sets.ensures c.in_err-behind.was)

pub returns : goal.returns
returns c = top_read _ _ _ c.number_up_to.ensures c.in_ok-tag.was c.after.ensures c.skip_sets.ensures c.in_ok-behind.was
