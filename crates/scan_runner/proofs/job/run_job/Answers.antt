use Rattle.std.proofs.Common.{rules, refl}
use Rattle.bits.proofs.Gathering.{no-marks}
use Rattle.panel_check.proofs.Names.{names-long}
use Rattle.scan_runner.proofs.Ending.{places_room, job_handed, job_standing, job_ran}
use Rattle.scan_runner.proofs.job.run_job.Goals as goal

pub prepare-requires-clause-clear : goal.prepare-requires-clause-clear
prepare-requires-clause-clear c = search (no-marks, names-long, rules)

pub returns-in_err-p : goal.returns-in_err-p
returns-in_err-p c = job_handed c.prepare.ensures c.in_err-p.was c.from_residual.ensures.1

pub run_prepared-requires : goal.run_prepared-requires
run_prepared-requires c = job_standing c.prepare.ensures c.in_ok-p.was (search (places_room, rules)) refl

pub returns : goal.returns
returns c = job_ran c.prepare.ensures c.in_ok-p.was c.run_prepared.ensures
