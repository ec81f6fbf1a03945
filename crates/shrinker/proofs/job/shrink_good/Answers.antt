use Rattle.shrinker.proofs.JobLaws.{good_laws}
use Rattle.std.proofs.Common.{rules}
use Rattle.shrinker.proofs.job.shrink_good.Goals as goal

pub returns : goal.returns
returns c = search (good_laws, rules)
