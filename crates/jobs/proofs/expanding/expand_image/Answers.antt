use Rattle.jobs.proofs.Charging.{charging_laws}
use Rattle.std.proofs.Common.{rules}
use Rattle.jobs.proofs.expanding.expand_image.Goals as goal

pub judge_syntax-requires : goal.judge_syntax-requires
judge_syntax-requires c = search (charging_laws, rules)

pub begin-requires : goal.begin-requires
begin-requires c = search (charging_laws, rules)

pub stopped-requires : goal.stopped-requires
stopped-requires c = search (charging_laws, rules)

pub expand_loaded-requires : goal.expand_loaded-requires
expand_loaded-requires c = search (charging_laws, rules)

pub returns-in-Err : goal.returns-in-Err
returns-in-Err c = search (charging_laws, rules)

pub returns-in-Err-begin : goal.returns-in-Err-begin
returns-in-Err-begin c = search (charging_laws, rules)

pub returns-in-Ok-begin : goal.returns-in-Ok-begin
returns-in-Ok-begin c = search (charging_laws, rules)
