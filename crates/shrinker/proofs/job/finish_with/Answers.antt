use Rattle.shrinker.proofs.JobLaws.{finish_laws}
use Rattle.std.proofs.Common.{rules}
use Rattle.shrinker.proofs.job.finish_with.Goals as goal

pub returns-then-out-bytes : goal.returns-then-out-bytes
returns-then-out-bytes c = search (finish_laws, rules)

pub returns : goal.returns
returns c = search (finish_laws, rules)
