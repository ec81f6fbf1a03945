use Rattle.jobs.proofs.Charging.{charging_laws}
use Rattle.jobs.proofs.Definitions.{parse-ends}
use Rattle.std.proofs.Common.{rules}
use Rattle.jobs.proofs.parsing.parse_work.Goals as goal

pub slice_bounds-judge_syntax-end : goal.slice_bounds-judge_syntax-end
slice_bounds-judge_syntax-end c = search (charging_laws, parse-ends, rules)

pub judge_syntax-requires : goal.judge_syntax-requires
judge_syntax-requires c = search (charging_laws, parse-ends, rules)

pub begin-requires : goal.begin-requires
begin-requires c = search (charging_laws, parse-ends, rules)

pub stopped-requires : goal.stopped-requires
stopped-requires c = search (charging_laws, parse-ends, rules)

pub slice_bounds-parse_loaded-end : goal.slice_bounds-parse_loaded-end
slice_bounds-parse_loaded-end c = search (charging_laws, parse-ends, rules)

pub parse_loaded-requires : goal.parse_loaded-requires
parse_loaded-requires c = search (charging_laws, parse-ends, rules)

pub returns-in-Err : goal.returns-in-Err
returns-in-Err c = search (charging_laws, parse-ends, rules)

pub returns-in-Err-begin : goal.returns-in-Err-begin
returns-in-Err-begin c = search (charging_laws, parse-ends, rules)

pub returns-in-Ok-begin : goal.returns-in-Ok-begin
returns-in-Ok-begin c = search (charging_laws, parse-ends, rules)
