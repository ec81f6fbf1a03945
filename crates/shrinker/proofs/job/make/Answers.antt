use Rattle.shrinker.proofs.JobLaws.{make_laws}
use Rattle.std.proofs.Common.{rules}
use Rattle.shrinker.proofs.job.make.Goals as goal

pub make_with-requires : goal.make_with-requires
make_with-requires c = search (make_laws, rules)
