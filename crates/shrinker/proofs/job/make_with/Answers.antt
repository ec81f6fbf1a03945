use Rattle.shrinker.proofs.JobLaws.{with_laws}
use Rattle.std.proofs.Common.{rules}
use Rattle.shrinker.proofs.job.make_with.Goals as goal

pub put_smaller-requires : goal.put_smaller-requires
put_smaller-requires c = search (with_laws, rules)
