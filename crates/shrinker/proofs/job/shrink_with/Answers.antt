use Rattle.shrinker.proofs.JobLaws.{judged_laws}
use Rattle.std.proofs.Common.{rules}
use Rattle.shrinker.proofs.job.shrink_with.Goals as goal

pub returns-in-Ok : goal.returns-in-Ok
returns-in-Ok c = search (judged_laws, rules)

pub returns-in-Err : goal.returns-in-Err
returns-in-Err c = search (judged_laws, rules)
