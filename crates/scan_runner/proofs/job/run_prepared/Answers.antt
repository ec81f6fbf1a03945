use Rattle.scan_runner.proofs.Ending.{prepared_too_long, prepared_runnable, prepared_ran}
use Rattle.scan_runner.proofs.job.run_prepared.Goals as goal

pub returns-then-out-total : goal.returns-then-out-total
returns-then-out-total c = prepared_too_long c.requires c.fixed_length.ensures.is c.total_length-total.ensures c.if-out-total.true

pub run_scans-requires : goal.run_scans-requires
run_scans-requires c = prepared_runnable c.requires c.fixed_length.ensures.is c.total_length-total.ensures c.if-out-total.false c.list_points-driven.ensures

pub returns : goal.returns
returns c = prepared_ran c.requires c.fixed_length.ensures.is c.total_length-total.ensures c.if-out-total.false c.list_points-driven.ensures c.run_scans.ensures
