use Rattle.std.proofs.Common.{refl}
use Rattle.image.proofs.judge_rest.Goals as goal
use Rattle.refusals.proofs.Handing.{handed_on}
use Rattle.numbers.proofs.Answering.{seen-moved, seen-within}
use Rattle.bindings.proofs.InTurn.{all_tail}
use Rattle.image.proofs.BehindHeads.{binds_stop, rest-stops, rest-good}

pub returns-in_err-bindings : goal.returns-in_err-bindings
returns-in_err-bindings c = binds_stop _ _ _ c.counts-counts.ensures _ c.read_bindings.ensures.result_after c.in_err-bindings.was (handed_on c.from_residual.ensures.1 refl)

pub after-requires : goal.after-requires
after-requires c =
    (seen-moved _ _ _ _ c.read_bindings.ensures.result_after c.in_ok-bindings.was (all_tail _ _), seen-within _ _ _ _ c.read_bindings.ensures.result_after c.in_ok-bindings.was (all_tail _ _))

pub returns-in_err-size : goal.returns-in_err-size
returns-in_err-size c =
    rest-stops _ _ _ c.counts-counts.ensures _ c.read_bindings.ensures.result_after c.in_ok-bindings.was c.after.ensures c.measure_syntax_root.ensures c.in_err-size.was (handed_on c.from_residual-in_err-size.ensures.1 refl)

pub returns : goal.returns
returns c =
    rest-good _ _ _ c.counts-counts.ensures _ c.read_bindings.ensures.result_after c.in_ok-bindings.was c.after.ensures c.measure_syntax_root.ensures c.in_ok-size.was c.in_ok-bindings.ensures.count_le_most_bindings
