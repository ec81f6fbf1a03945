use Rattle.std.proofs.Common.{refl, ◌≤◌, arith}
use Rattle.bindings.proofs.loading.read_bindings.Goals as goal
use Rattle.numbers.proofs.Answering.{seen_handed, read-moved, read-within}
use Rattle.numbers.proofs.Tails.{up_to_tail}
use Rattle.bindings.proofs.InTurn.{all-stops, all-few, all_withheld, all-given}

pub returns-in_err-n-clause-result_after : goal.returns-in_err-n-clause-result_after
returns-in_err-n-clause-result_after c = seen_handed _ _ c.from_residual.ensures.1 (all-stops _ _ _ c.number_up_to.ensures c.in_err-n.was)

pub after-requires : goal.after-requires
after-requires c = (read-moved _ _ _ c.in_ok-n.ensures refl (up_to_tail _ _ _), read-within _ _ _ c.in_ok-n.ensures refl (up_to_tail _ _ _))

pub read_some-requires-clause-held : goal.read_some-requires-clause-held
read_some-requires-clause-held c = let few : c.in_ok-n.n ≤ 512 = all-few c.args.counts _ _ c.in_ok-n.ensures refl in omega (arith, c.requires.held)

pub returns-in_err-behind-clause-result_after : goal.returns-in_err-behind-clause-result_after
returns-in_err-behind-clause-result_after c =
    seen_handed _ _ c.from_residual-in_err-behind.ensures.1 (all_withheld _ _ _ c.in_ok-n.ensures refl c.after.ensures c.in_err-behind.ensures refl)

pub returns-clause-result_after : goal.returns-clause-result_after
returns-clause-result_after c = all-given _ _ _ c.in_ok-n.ensures refl c.after.ensures c.in_ok-behind.ensures refl

pub returns-clause-count_le_most_bindings : goal.returns-clause-count_le_most_bindings
returns-clause-count_le_most_bindings c = all-few c.args.counts _ _ c.in_ok-n.ensures refl
