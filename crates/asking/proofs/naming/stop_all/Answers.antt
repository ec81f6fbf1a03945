use Rattle.std.proofs.Common.{rules, refl}
use Rattle.refusals.proofs.Handing.{handed_on}
use Rattle.asking.proofs.naming.stop_all.Goals as goal
use Rattle.asking.proofs.Stopping.{all_laws, stopping-refused}

pub loop-k-init : goal.loop-k-init
loop-k-init c = search (all_laws, rules)

pub get_cell-x-requires : goal.get_cell-x-requires
get_cell-x-requires c = search (all_laws, rules)

pub stop_one-requires : goal.stop_one-requires
stop_one-requires c = search (all_laws, rules)

pub returns-in_err-stop_one : goal.returns-in_err-stop_one
returns-in_err-stop_one c = rw (handed_on c.from_residual.ensures.1 refl) (stopping-refused c.loop-k.invariant c.loop-k-test.true c.get_cell-x.ensures c.stop_one.ensures c.in_err-stop_one.was)

pub loop-k-smaller : goal.loop-k-smaller
loop-k-smaller c = search (all_laws, rules)

pub loop-k-preserved : goal.loop-k-preserved
loop-k-preserved c = search (all_laws, rules, c.in_ok-stop_one.was)

pub returns : goal.returns
returns c = search (all_laws, rules)
