use Rattle.std.proofs.Common.{rules}
use Rattle.scan_runner.proofs.Stepping.{step_laws}
use Rattle.scan_runner.proofs.step.scan_once.Goals as goal

pub run-requires : goal.run-requires
run-requires c = search (step_laws, rules)

pub returns : goal.returns
returns c = search (step_laws, rules)
